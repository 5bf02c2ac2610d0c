-- A member's records that scoring would refuse with 14, 12 or 13: all of them, each judged against all earlier live calls, refused or not. Assumes nothing.
use Rattle.std.specs.Prelude.{◌≡◌, Bool, cond, not, List, [], ◌∷◌, ℕ, ◌-◌, eqb, length}
use Rattle.call.specs.declared.Call.{Call}
use Rattle.book.specs.Book.{count_at, record_at}
use Rattle.book.specs.Check.{check}
use Rattle.pay.specs.declared.Member.{Member}
use Rattle.score.specs.First.{first_nonzero}
use Rattle.score.specs.Refusing.{clashes, refusal_at}
use Rattle.score.specs.Scoring.{month_at}
use Rattle.score.specs.Outcomes.{Spans, ValuesWithin}
use Rattle.drawer.specs.declared.refused.RefusedRecord.{RefusedRecord}
use Rattle.drawer.specs.declared.refused.NextRefused.{NextRefused}
use Rattle.drawer.specs.declared.refused.NextRefused.TheVariants.{BadBook, NoneLeft, Next}
use Rattle.drawer.specs.Told.{told_from}

-- 1 at a record that stands against x, 0 at others
unfoldable pub against_at : ℕ → Call → (ℕ → Call) → ℕ → ℕ
against_at number x book j = cond (clashes number x (book j)) 1 0

-- the first record before record i that stands against x, or i
unfoldable pub first_against : ℕ → Call → (ℕ → Call) → ℕ → ℕ
first_against number x book i = first_nonzero (against_at number x book) i

-- record k of a book is refused
unfoldable pub is_refused_at : Member → List ℕ → ℕ → Bool
is_refused_at m b k = not (eqb (refusal_at (month_at b) m (record_at b) k) 0)

-- what is told of it: its number, and the first earlier call that stands against it
unfoldable pub refused_at : Member → List ℕ → ℕ → RefusedRecord
refused_at m b k =
    record { place = k; number = refusal_at (month_at b) m (record_at b) k; against = first_against m.number (record_at b k) (record_at b) k }

-- what is listed of a book, from record i on
unfoldable pub refused_of : Member → List ℕ → ℕ → List RefusedRecord
refused_of m b i = told_from (is_refused_at m b) (refused_at m b) i (count_at b - i)

-- the first of them
unfoldable pub first_refusal : List RefusedRecord → NextRefused
first_refusal [] = NoneLeft
first_refusal (x ∷ xs) = Next x

-- a refusal, where the book's check refuses it
unfoldable pub next_refused : Member → List ℕ → ℕ → NextRefused
next_refused m b i = cond (eqb (check b).number 0) (first_refusal (refused_of m b i)) (BadBook (check b).number (check b).place)

-- What the promises speak of

-- none of 11 to 14 is listed of a member: its series is good, and no record is refused
pub record NoneListed (m : Member) (b series : List ℕ) : Type 0 where
  pub spans : Spans b series
  pub within : ValuesWithin series (length series)
  pub records : refused_of m b 0 ≡ []

-- a member and its series, as scoring is given them
pub record Given : Type 0 where
  pub member : Member
  pub series : List ℕ
