-- The second way of scoring: services 1 and 2 by a walk through the month, minute by minute. Assumes nothing.
-- Apart from the first way it says which calls are windows, which minutes each covers, at which output, and how they add up. Both ways share, by one definition each, what a minute at one output
-- pays (`minute_pay`), the refusals with their order and places, the other services with the energy, and the conversion to fen: of these the comparison of both ways says nothing.
use Rattle.std.specs.Prelude.{Bool, cond, not, ◌&&◌, ◌||◌, List, [], ◌∷◌, ℕ, ◌+◌, ◌/◌, eqb, ltb, leb, get_or}
use Rattle.units.specs.Month.{minutes_per_quarter, minutes_of, quarters_of}
use Rattle.call.specs.declared.Call.{Call}
use Rattle.call.specs.Services.{deep_peak, reserve}
use Rattle.book.specs.Book.{header_at, count_at, record_at, calls_of}
use Rattle.book.specs.Check.{check}
use Rattle.pay.specs.declared.Member.{Member}
use Rattle.pay.specs.Member.{member_is_sound}
use Rattle.pay.specs.Sum.{total, total_z}
use Rattle.pay.specs.Window.{minute_pay}
use Rattle.pay.specs.Rate.{rated_pay}
use Rattle.pay.specs.Event.{called_up, energy_pay}
use Rattle.score.specs.declared.answer.Score.{Score}
use Rattle.score.specs.declared.answer.Earned.{Earned}
use Rattle.score.specs.declared.answer.Earned.TheVariants.{Accepted, Refused}
use Rattle.score.specs.Series.{series_fault}
use Rattle.score.specs.Refusing.{refusal_at}
use Rattle.score.specs.Scoring.{is_own_live, wh_at, first_refused, after, month_at, in_fen}

-- One minute

-- a live window of the member and the service
unfoldable pub is_window : Member → ℕ → Call → Bool
is_window m service x = is_own_live m x && eqb x.service service

-- those among the calls, in their order
unfoldable pub windows_of : Member → ℕ → List Call → List Call
windows_of m service [] = []
windows_of m service (x ∷ xs) = cond (is_window m service x) (x ∷ windows_of m service xs) (windows_of m service xs)

-- a window covers a minute that begins no earlier than the window, and ends no later
unfoldable pub covers : Call → ℕ → Bool
covers x minute = leb x.start minute && leb (minute + 1) (x.start + x.length)

-- the output of a minute is the mean of its quarter hour
abbrev pub output_at : List ℕ → ℕ → ℕ
output_at series minute = get_or series (minute / minutes_per_quarter) 0

-- what a minute of a window pays at an output, by the paper's rule, which both ways share; 2 up to the power a that is called
unfoldable pub window_minute : Member → Call → ℕ → ℕ
window_minute m x p = minute_pay m x.service (called_up x.a) p

-- a minute pays by the window that covers it; where none does, it pays nothing
unfoldable pub minute_at : Member → List ℕ → List Call → ℕ → ℕ
minute_at m series [] minute = 0
minute_at m series (x ∷ windows) minute = cond (covers x minute) (window_minute m x (output_at series minute)) (minute_at m series windows minute)

-- The month

-- one service: the minutes' pay, from the month's first minute to its last
unfoldable pub walked : Member → ℕ → List ℕ → List ℕ → ℕ
walked m service b series = total (minute_at m series (windows_of m service (calls_of b))) 0 (minutes_of (header_at b).year (header_at b).month)

-- a call of another service goes the first way: by its rate, which both ways share
unfoldable pub other_pay : Member → Call → ℕ
other_pay m x = cond (is_own_live m x && not (eqb x.service deep_peak || eqb x.service reserve)) (rated_pay m x) 0

-- the same of record i of a book
unfoldable pub other_at : Member → (ℕ → Call) → ℕ → ℕ
other_at m book i = other_pay m (book i)

-- service 1, service 2, the other services, and the month's energy, clamped once
unfoldable pub reckoned_grains : Member → List ℕ → List ℕ → ℕ
reckoned_grains m b series =
    walked m deep_peak b series
    + walked m reserve b series
    + total (other_at m (record_at b)) 0 (count_at b)
    + energy_pay (total_z (wh_at m (record_at b)) (count_at b))

-- The answer

-- the first refusal among the records, with its record, which both ways share; or the month's grains
unfoldable pub records_reckoned : Member → List ℕ → List ℕ → Earned
records_reckoned m b series =
    cond (ltb (first_refused (month_at b) m (record_at b) (count_at b)) (count_at b))
    (Refused (refusal_at (month_at b) m (record_at b) (first_refused (month_at b) m (record_at b) (count_at b))) (first_refused (month_at b) m (record_at b) (count_at b)))
    (Accepted (record { 0 = reckoned_grains m b series }))

-- over a sound book: the series, then the records
unfoldable pub sound_reckoned : Member → List ℕ → List ℕ → Earned
sound_reckoned m b series =
    after (series_fault series (quarters_of (header_at b).year (header_at b).month))
    (records_reckoned m b series)

-- the register line, the book, and the rest
unfoldable pub grains_reckoned : Member → List ℕ → List ℕ → Earned
grains_reckoned m b series =
    cond (not (member_is_sound m)) (Refused 10 0)
    (after (check b)
    (sound_reckoned m b series))

-- the score of one member, minute by minute
unfoldable pub reckoning : Member → List ℕ → List ℕ → Score
reckoning m b series = in_fen (grains_reckoned m b series)
