-- How every year goes on, also one that comes from no statements: no sentence of the request, but so that no year is left open. What statements come to is in Year.
-- Assumes nothing.
use Rattle.std.specs.Prelude.{Bool, true, cond, ◌&&◌, ◌||◌, List, [], ◌∷◌, ℕ, ◌+◌, ◌-◌, ◌*◌, eqb, ltb, leb, ℤ, nat_abs, ◌+ℤ◌, get_or, set}
use Rattle.std.specs.Int.Signed.{lt_z}
use Rattle.share.specs.Sharing.{most_compensation, most_assessment}
use Rattle.year.specs.declared.YearLine.{YearLine}
use Rattle.year.specs.declared.MonthStatement.{MonthStatement}
use Rattle.year.specs.declared.Sums.{Sums}
use Rattle.year.specs.declared.Largest.{Largest}
use Rattle.year.specs.declared.MemberYear.{MemberYear}
use Rattle.year.specs.declared.Year.{Year}
use Rattle.year.specs.Year.{most_statements, most_either_way, lines_in, statement_is_sound, no_months, year_refused}

-- a sum, and a month's number more; a sum past all that twelve statements can come to stays as it is
unfoldable pub fen_plus : ℕ → ℕ → ℕ
fen_plus a b = cond (leb a (most_statements * most_compensation)) (a + b) a

unfoldable pub thousandths_plus : ℕ → ℕ → ℕ
thousandths_plus a b = cond (leb a (most_statements * most_assessment)) (a + b) a

unfoldable pub signed_plus : ℤ → ℤ → ℤ
signed_plus a b = cond (leb (nat_abs a) (most_statements * most_either_way)) (a +ℤ b) a

-- the sums after a line more
unfoldable pub sums_with : Sums → YearLine → Sums
sums_with s l =
    record {
      compensation = record { 0 = fen_plus s.compensation.0 l.compensation.0 };
      assessment = record { 0 = thousandths_plus s.assessment.0 l.assessment.0 };
      share = record { 0 = signed_plus s.share.0 l.share.0 };
      amount = record { 0 = signed_plus s.amount.0 l.amount.0 };
    }

-- the largest after a month's amount
unfoldable pub largest_with : Largest → ℕ → ℤ → Largest
largest_with g month amount = cond (eqb g.month 0 || lt_z g.amount.0 amount) (record { amount = record { 0 = amount }; month = month }) g

-- a member after its line of a month
unfoldable pub member_with : MemberYear → ℕ → YearLine → MemberYear
member_with m month l =
    record { months = set m.months (month - 1) true; sums = sums_with m.sums l; largest = largest_with m.largest month l.amount.0 }

-- the members after a line of a month, and after its lines in turn
unfoldable pub put_line : List MemberYear → ℕ → YearLine → List MemberYear
put_line ms month l = set ms (l.number - 1) (member_with (get_or ms (l.number - 1) no_months) month l)

unfoldable pub with_lines : List MemberYear → ℕ → List YearLine → List MemberYear
with_lines ms month [] = ms
with_lines ms month (l ∷ ls) = with_lines (put_line ms month l) month ls

-- the year takes a statement
unfoldable pub year_takes : Year → MonthStatement → Bool
year_takes y s =
    ltb y.count most_statements && (eqb y.count 0 || eqb s.year y.year)
    && ltb y.month s.month && statement_is_sound s

-- the year after a statement that it takes
unfoldable pub year_taking : Year → MonthStatement → Year
year_taking y s =
    record {
      number = 0;
      place = 0;
      year = s.year;
      month = s.month;
      count = y.count + 1;
      members = with_lines y.members s.month (lines_in s);
      users = record { 0 = signed_plus y.users.0 s.user.0 };
    }

-- the year after one statement more: the first refusal stands
unfoldable pub year_with : Year → MonthStatement → Year
year_with y s = cond (eqb y.number 0) (cond (year_takes y s) (year_taking y s) (year_refused 10 y.count)) y
