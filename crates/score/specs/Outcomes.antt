-- What scoring answers exactly when: a row for each refusal and one for a score, each with its condition and with those before it not met. Assumes nothing.
use Rattle.std.specs.Prelude.{◌≡◌, true, List, ◌⊎◌, ℕ, ◌+◌, ◌≤◌, ◌<◌, get_or, length}
use Rattle.units.specs.Month.{quarters_of}
use Rattle.units.specs.Money.{grains_to_fen}
use Rattle.call.specs.declared.Call.{Call}
use Rattle.call.specs.Revising.{live, contested, withdrawn}
use Rattle.call.specs.Services.{standby, black_start, agc_availability, agc_contribution, avc}
use Rattle.book.specs.Book.{header_at, count_at, record_at}
use Rattle.book.specs.Check.{accepted, check}
use Rattle.pay.specs.declared.Member.{Member}
use Rattle.pay.specs.declared.open.Month.{Month}
use Rattle.pay.specs.Member.{MemberWithin}
use Rattle.pay.specs.Open.{open_to}
use Rattle.score.specs.declared.answer.Score.{Score}
use Rattle.score.specs.Series.{most_output, length_place}
use Rattle.score.specs.Scoring.{month_grains, month_at, score_refused}

-- line and book are good
pub record LineAndBook (m : Member) (b : List ℕ) : Type 0 where
  pub line : MemberWithin m
  pub book : check b ≡ accepted

-- the series has a value for each quarter hour of the book's month
abbrev pub Spans : List ℕ → List ℕ → Type 0
Spans b series = length series ≡ quarters_of (header_at b).year (header_at b).month

-- the values before value i are within the limit
abbrev pub ValuesWithin : List ℕ → ℕ → Type 0
ValuesWithin series i = (j : ℕ) → j < i → get_or series j 0 ≤ most_output

-- line, book and series are good
pub record Ready (m : Member) (b series : List ℕ) : Type 0 where
  pub front : LineAndBook m b
  pub spans : Spans b series
  pub within : ValuesWithin series (length series)

-- y is a live call of the member, of the service of x
pub record OfOneService (number : ℕ) (x y : Call) : Type 0 where
  pub own : y.participant ≡ number
  pub live : y.state ≡ live
  pub service : y.service ≡ x.service

-- y stands against x, which comes after it: in services 1 to 4 where they share a minute; of 5, 6, 7 and 9 a month has one
pub data Against (number : ℕ) (x y : Call) : Type 0 where
  shares_minute : OfOneService number x y → x.service ≤ standby → x.start < y.start + y.length → y.start < x.start + x.length → Against number x y
  second : OfOneService number x y → (x.service ≡ black_start) ⊎ (x.service ≡ agc_availability) ⊎ (x.service ≡ agc_contribution) ⊎ (x.service ≡ avc) → Against number x y

-- record i raises no refusal: another's, withdrawn, or live, open and with no earlier one against it
pub data Passes (month : Month) (m : Member) (book : ℕ → Call) (i : ℕ) : Type 0 where
  other : ((book i).participant ≡ m.number → ⊥) → Passes month m book i
  gone : (book i).participant ≡ m.number → (book i).state ≡ withdrawn → Passes month m book i
  good : (book i).participant ≡ m.number → (book i).state ≡ live → open_to month m (book i) ≡ true
      → ((j : ℕ) → j < i → Against m.number (book i) (book j) → ⊥) → Passes month m book i

-- the records before record i raise none
abbrev pub Clear : Month → Member → (ℕ → Call) → ℕ → Type 0
Clear month m book i = (k : ℕ) → k < i → Passes month m book k

-- it is record i's turn: it is the member's, and those before it raise none
pub record RecordsTurn (m : Member) (b series : List ℕ) (i : ℕ) : Type 0 where
  pub ready : Ready m b series
  pub is_record_lem : i < count_at b
  pub clear : Clear (month_at b) m (record_at b) i
  pub own : (record_at b i).participant ≡ m.number

-- the answer r of scoring, a row each
pub data ScoreOutcome (m : Member) (b series : List ℕ) (r : Score) : Type 0 where
  bad_line_lem : r ≡ score_refused 10 0 → (MemberWithin m → ⊥) → ScoreOutcome m b series r
  bad_book : r ≡ score_refused (check b).number (check b).place → MemberWithin m → (check b ≡ accepted → ⊥) → ScoreOutcome m b series r
  bad_length : r ≡ score_refused 11 length_place → LineAndBook m b → (Spans b series → ⊥) → ScoreOutcome m b series r
  bad_value : (i : ℕ) → r ≡ score_refused 11 i → LineAndBook m b → Spans b series
      → i < length series → ValuesWithin series i → most_output < get_or series i 0 → ScoreOutcome m b series r
  is_contested_lem : (i : ℕ) → r ≡ score_refused 14 i → RecordsTurn m b series i → (record_at b i).state ≡ contested → ScoreOutcome m b series r
  not_open_lem : (i : ℕ) → r ≡ score_refused 12 i → RecordsTurn m b series i → (record_at b i).state ≡ live
      → (open_to (month_at b) m (record_at b i) ≡ true → ⊥) → ScoreOutcome m b series r
  stands_against_lem : (i j : ℕ) → r ≡ score_refused 13 i → RecordsTurn m b series i → (record_at b i).state ≡ live
      → open_to (month_at b) m (record_at b i) ≡ true → j < i → Against m.number (record_at b i) (record_at b j) → ScoreOutcome m b series r
  scored : (g : ℕ) → r ≡ record { number = 0; place = 0; grains = record { 0 = g }; fen = record { 0 = grains_to_fen g } }
      → Ready m b series → Clear (month_at b) m (record_at b) (count_at b) → g ≡ month_grains m series (record_at b) (count_at b) → ScoreOutcome m b series r
