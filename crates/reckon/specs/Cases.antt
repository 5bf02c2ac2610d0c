-- The request's cases: one window of 120 minutes from the month's first minute on, a coal unit, and its outputs in the first quarter hours; and one over midnight. Assumes nothing.
use Rattle.std.specs.Prelude.{List, [], ◌∷◌, ◌++◌, ℕ, pos, replicate}
use Rattle.units.specs.Money.{grains_to_fen}
use Rattle.call.specs.declared.Call.{Call}
use Rattle.call.specs.Revising.{live}
use Rattle.call.specs.Services.{deep_peak}
use Rattle.book.specs.declared.Header.{Header}
use Rattle.book.specs.Book.{first_version, book_bytes}
use Rattle.pay.specs.declared.Member.{Member}
use Rattle.pay.specs.Kinds.{coal}
use Rattle.score.specs.declared.answer.Score.{Score}

-- area 5, February 2026: 2,688 quarter hours
unfoldable pub february : Header
february = record { area = 5; year = 2026; month = 2 }

-- member 7, coal of so many kW
unfoldable pub coal_of : ℕ → Member
coal_of rated = record { number = 7; kind = coal; rated = record { 0 = rated } }

-- its call: service, 120 minutes from minute 0 on, the called power
unfoldable pub two_hours : ℕ → ℕ → Call
two_hours service a = record { participant = 7; service = service; state = live; number = 1; revision = 1; start = 0; length = 120; a = pos a; b = 0; c = 0 }

-- the book of that call
unfoldable pub book_of : Call → List ℕ
book_of x = book_bytes first_version february (x ∷ [])

-- eight outputs, and nothing from then on
unfoldable pub series_of : List ℕ → List ℕ
series_of outputs = outputs ++ replicate 2680 0

-- accepted: so many grains, and their fen
unfoldable pub paid : ℕ → Score
paid grains = record { number = 0; place = 0; grains = record { 0 = grains }; fen = record { 0 = grains_to_fen grains } }

-- coal of 300,000 kW on reserve up to 290,000, the output rising from half of the rating on, through 70% of it
unfoldable pub rising : List ℕ
rising = 150000 ∷ 170000 ∷ 190000 ∷ 210000 ∷ 230000 ∷ 250000 ∷ 270000 ∷ 290000 ∷ []

-- an odd rating in deep peaking: 10,001 kW more in each quarter hour
unfoldable pub odd : List ℕ
odd = 100000 ∷ 110001 ∷ 120002 ∷ 130003 ∷ 140004 ∷ 150005 ∷ 160006 ∷ 170007 ∷ []

-- an hour before the month's first midnight and an hour behind it, in deep peaking
unfoldable pub over_midnight : Call
over_midnight = record { participant = 7; service = deep_peak; state = live; number = 1; revision = 1; start = 1380; length = 120; a = pos 0; b = 0; c = 0 }

-- one output throughout the month
unfoldable pub even : List ℕ
even = replicate 2688 140000
