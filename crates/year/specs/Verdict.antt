-- What statements come to exactly when: a row for the refusal and one for the year, each with its condition in the request's words. Assumes nothing.
use Rattle.std.specs.Prelude.{◌≡◌, List, ℕ, zero, suc, ◌≤◌, ◌<◌, pos, nat_abs, ◌+ℤ◌, length, get_or, take, replicate}
use Rattle.units.specs.Month.{months_per_year}
use Rattle.book.specs.Book.{first_year, last_year}
use Rattle.share.specs.Sharing.{most_number, most_compensation, most_assessment}
use Rattle.year.specs.declared.YearLine.{YearLine}
use Rattle.year.specs.declared.MonthStatement.{MonthStatement}
use Rattle.year.specs.declared.Year.{Year}
use Rattle.year.specs.Year.{most_statements, most_members, most_either_way, lines_in, sumℤ, amounts_of, year_in, last_month, year_refused, year_taken}

-- a line of zeros, which is never sound, and a statement of such lines
abbrev pub blank_line : YearLine
blank_line =
    record {
      number = 0;
      compensation = record { 0 = 0 };
      assessment = record { 0 = 0 };
      share = record { 0 = pos 0 };
      amount = record { 0 = pos 0 };
    }

abbrev pub blank_statement : MonthStatement
blank_statement = record { year = 0; month = 0; count = 0; lines = replicate most_members blank_line; user = record { 0 = pos 0 } }

-- a line within the limits
pub record LineFits (l : YearLine) : Type 0 where
  pub number : (1 ≤ l.number) × (l.number ≤ most_number)
  pub compensation : l.compensation.0 ≤ most_compensation
  pub assessment : l.assessment.0 ≤ most_assessment
  pub share : nat_abs l.share.0 ≤ most_either_way
  pub amount : nat_abs l.amount.0 ≤ most_either_way

-- the number of the line before a place; `first` before the first
unfoldable pub number_before : ℕ → List YearLine → ℕ → ℕ
number_before first ls zero = first
number_before first ls (suc k) = (get_or ls k blank_line).number

-- every line is within the limits, and its number is above that of the line before it
abbrev pub LinesFit : ℕ → List YearLine → Type 0
LinesFit first ls = (k : ℕ) → k < length ls → LineFits (get_or ls k blank_line) × (number_before first ls k < (get_or ls k blank_line).number)

-- a month of a year
abbrev pub IsMonth : ℕ → Type 0
IsMonth month = (1 ≤ month) × (month ≤ months_per_year)

-- a statement within the limits, whose amounts add up to zero
pub record StatementFits (s : MonthStatement) : Type 0 where
  pub year : (first_year ≤ s.year) × (s.year ≤ last_year)
  pub month : IsMonth s.month
  pub few : s.count ≤ most_members
  pub user : nat_abs s.user.0 ≤ most_either_way
  pub lines : LinesFit 0 (lines_in s)
  pub zero : sumℤ (amounts_of (lines_in s)) +ℤ s.user.0 ≡ pos 0

-- a statement that goes on behind those before it: no thirteenth, of their year, of a later month
pub record GoesOn (before : List MonthStatement) (s : MonthStatement) : Type 0 where
  pub few : length before < most_statements
  pub year : 0 < length before → s.year ≡ year_in before
  pub month : last_month before < s.month
  pub fits : StatementFits s

-- statement k does
abbrev pub GoesOnAt : List MonthStatement → ℕ → Type 0
GoesOnAt ss k = GoesOn (take k ss) (get_or ss k blank_statement)

-- the answer o for statements, a row each: 10 at the first that does not go on behind those before it; otherwise the year
pub data YearVerdict (ss : List MonthStatement) (o : Year) : Type 0 where
  ten : (p : ℕ) → p < length ss → ((k : ℕ) → k < p → GoesOnAt ss k) → (GoesOnAt ss p → ⊥) → o ≡ year_refused 10 p → YearVerdict ss o
  taken : ((k : ℕ) → k < length ss → GoesOnAt ss k) → o ≡ year_taken ss → YearVerdict ss o

-- statements that are accepted, said of the whole list: each within the limits, all of one year, their months rising
pub record Acceptable (ss : List MonthStatement) : Type 0 where
  pub fit : (k : ℕ) → k < length ss → StatementFits (get_or ss k blank_statement)
  pub year : (k : ℕ) → k < length ss → (get_or ss k blank_statement).year ≡ year_in ss
  pub months : (j k : ℕ) → j < k → k < length ss → (get_or ss j blank_statement).month < (get_or ss k blank_statement).month
