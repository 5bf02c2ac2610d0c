-- The year in exact numbers: up to twelve monthly statements, judged in turn, and what they come to for each member. Over the whole list; how it is taken is not
-- spoken of. Assumes nothing.
use Rattle.std.specs.Prelude.{◌≡◌, Bool, true, false, cond, ◌&&◌, ◌||◌, List, [], ◌∷◌, ◌++◌, map, ℕ, zero, suc, ◌+◌, eqb, ltb, leb, ℤ, pos, nat_abs, ◌+ℤ◌, length, take, replicate}
use Rattle.std.specs.Int.Signed.{lt_z}
use Rattle.units.specs.Month.{months_per_year}
use Rattle.book.specs.Book.{first_year, last_year}
use Rattle.share.specs.Sharing.{most_number, most_compensation, most_assessment}
use Rattle.year.specs.declared.YearLine.{YearLine}
use Rattle.year.specs.declared.MonthStatement.{MonthStatement}
use Rattle.year.specs.declared.Sums.{Sums}
use Rattle.year.specs.declared.Largest.{Largest}
use Rattle.year.specs.declared.MemberYear.{MemberYear}
use Rattle.year.specs.declared.Year.{Year}

-- Limits

-- there are up to twelve statements
abbrev pub most_statements : ℕ
most_statements = months_per_year

-- members are numbered 1 to 64, so a statement has at most 64 lines
abbrev pub most_members : ℕ
most_members = most_number

-- a share or an amount is at most 2 × 10^11 fen either way
abbrev pub most_either_way : ℕ
most_either_way = 200000000000

unfoldable pub is_within : ℤ → Bool
is_within fen = leb (nat_abs fen) most_either_way

-- A statement by itself

-- its lines are the first `count`
abbrev pub lines_in : MonthStatement → List YearLine
lines_in s = take s.count s.lines

-- year and month are in the ranges of a book's header
unfoldable pub date_is_sound : ℕ → ℕ → Bool
date_is_sound year month = leb first_year year && leb year last_year && leb 1 month && leb month months_per_year

-- a line is sound after the number `before`: numbers rise, number, compensation and assessment are within sharing's limits, share and amount within theirs
unfoldable pub year_line_is_sound : ℕ → YearLine → Bool
year_line_is_sound before l =
    ltb before l.number && leb l.number most_number
    && leb l.compensation.0 most_compensation && leb l.assessment.0 most_assessment
    && is_within l.share.0 && is_within l.amount.0

-- so is each line, in turn
unfoldable pub lines_are_sound : ℕ → List YearLine → Bool
lines_are_sound before [] = true
lines_are_sound before (l ∷ ls) = year_line_is_sound before l && lines_are_sound l.number ls

-- signed numbers added up
unfoldable pub sumℤ : List ℤ → ℤ
sumℤ [] = pos 0
sumℤ (z ∷ zs) = z +ℤ sumℤ zs

-- the amounts of lines
abbrev pub amounts_of : List YearLine → List ℤ
amounts_of ls = map (λ l. l.amount.0) ls

-- the amounts of the lines and the user's amount add up to zero
unfoldable pub adds_to_zero : List YearLine → ℤ → Bool
adds_to_zero ls user = eqb (nat_abs (sumℤ (amounts_of ls) +ℤ user)) 0

-- a statement by itself is sound
unfoldable pub statement_is_sound : MonthStatement → Bool
statement_is_sound s =
    date_is_sound s.year s.month && leb s.count most_members && is_within s.user.0
    && lines_are_sound 0 (lines_in s) && adds_to_zero (lines_in s) s.user.0

-- Statements in turn

-- the year of the first of some statements, 0 where there is none
unfoldable pub year_in : List MonthStatement → ℕ
year_in [] = 0
year_in (s ∷ ss) = s.year

-- the month of the last, 0 where there is none
unfoldable pub last_month : List MonthStatement → ℕ
last_month [] = 0
last_month (s ∷ []) = s.month
last_month (s ∷ t ∷ ss) = last_month (t ∷ ss)

-- a statement goes on behind those before it: it is not a thirteenth, it is of their year, its month comes after the last, and it is sound
unfoldable pub goes_on : List MonthStatement → MonthStatement → Bool
goes_on before s =
    ltb (length before) most_statements && (eqb (length before) 0 || eqb s.year (year_in before))
    && ltb (last_month before) s.month && statement_is_sound s

-- the place of the first statement that does not go on behind those before it, or where all do, how many they are
unfoldable pub first_bad_statement : List MonthStatement → List MonthStatement → ℕ
first_bad_statement before [] = 0
first_bad_statement before (s ∷ ss) = cond (goes_on before s) (suc (first_bad_statement (before ++ s ∷ []) ss)) 0

-- A member's year

-- a line, and the month that it is of
pub record MonthLine : Type 0 where
  pub month : ℕ
  pub line : YearLine

-- the lines of a member among those of a month
unfoldable pub of_member : ℕ → ℕ → List YearLine → List MonthLine
of_member number month [] = []
of_member number month (l ∷ ls) =
    cond (eqb l.number number) (record { month = month; line = l } ∷ of_member number month ls) (of_member number month ls)

-- the lines of a member in statements: one for each month that it is present in
unfoldable pub present_in : ℕ → List MonthStatement → List MonthLine
present_in number [] = []
present_in number (s ∷ ss) = of_member number s.month (lines_in s) ++ present_in number ss

-- there is a line of a month
unfoldable pub has_month : ℕ → List MonthLine → Bool
has_month month [] = false
has_month month (e ∷ es) = eqb e.month month || has_month month es

-- of so many months from a month on, whether it is present
unfoldable pub months_from : List MonthLine → ℕ → ℕ → List Bool
months_from es month zero = []
months_from es month (suc n) = has_month month es ∷ months_from es (suc month) n

-- numbers added up
unfoldable pub sumℕ : List ℕ → ℕ
sumℕ [] = 0
sumℕ (n ∷ ns) = n + sumℕ ns

-- the exact sums of compensation, assessment, shares and amounts
unfoldable pub sums_of : List MonthLine → Sums
sums_of es =
    record {
      compensation = record { 0 = sumℕ (map (λ e. e.line.compensation.0) es) };
      assessment = record { 0 = sumℕ (map (λ e. e.line.assessment.0) es) };
      share = record { 0 = sumℤ (map (λ e. e.line.share.0) es) };
      amount = record { 0 = sumℤ (map (λ e. e.line.amount.0) es) };
    }

-- a month's amount, with the month
abbrev pub amount_in : MonthLine → Largest
amount_in e = record { amount = e.line.amount; month = e.month }

-- the largest of an amount and those of further months: one as large as an earlier one leaves it
unfoldable pub largest_from : Largest → List MonthLine → Largest
largest_from g [] = g
largest_from g (e ∷ es) = largest_from (cond (lt_z g.amount.0 e.line.amount.0) (amount_in e) g) es

-- the largest monthly amount and its month, the earliest at a tie; zeros where no month is present
unfoldable pub largest_of : List MonthLine → Largest
largest_of [] = record { amount = record { 0 = pos 0 }; month = 0 }
largest_of (e ∷ es) = largest_from (amount_in e) es

-- a member's year, by the months that it is present in
unfoldable pub member_year : List MonthLine → MemberYear
member_year es = record { months = months_from es 1 months_per_year; sums = sums_of es; largest = largest_of es }

-- all zeros
unfoldable pub no_months : MemberYear
no_months =
    record {
      months = replicate months_per_year false;
      sums = record { compensation = record { 0 = 0 }; assessment = record { 0 = 0 }; share = record { 0 = pos 0 }; amount = record { 0 = pos 0 } };
      largest = record { amount = record { 0 = pos 0 }; month = 0 };
    }

-- the years of so many members from a number on
unfoldable pub members_from : List MonthStatement → ℕ → ℕ → List MemberYear
members_from ss number zero = []
members_from ss number (suc n) = member_year (present_in number ss) ∷ members_from ss (suc number) n

-- The answer

-- a refusal gives number and place, otherwise zeros
unfoldable pub year_refused : ℕ → ℕ → Year
year_refused number place =
    record {
      number = number;
      place = place;
      year = 0;
      month = 0;
      count = 0;
      members = replicate most_members no_months;
      users = record { 0 = pos 0 };
    }

-- the statements taken: their year, the last month, how many they are, the year of each member, and the users' amounts together
unfoldable pub year_taken : List MonthStatement → Year
year_taken ss =
    record {
      number = 0;
      place = 0;
      year = year_in ss;
      month = last_month ss;
      count = length ss;
      members = members_from ss 1 most_members;
      users = record { 0 = sumℤ (map (λ s. s.user.0) ss) };
    }

-- THE YEAR OF STATEMENTS: 10 at the first that does not go on behind those before it, or what all of them come to
unfoldable pub year_of : List MonthStatement → Year
year_of ss =
    cond (ltb (first_bad_statement [] ss) (length ss)) (year_refused 10 (first_bad_statement [] ss)) (year_taken ss)

-- the year has taken just these statements
abbrev pub HasTaken : Year → List MonthStatement → Type 0
HasTaken y ss = y ≡ year_of ss
