-- What people read of a year, byte by byte: money in yuan with two places. Assumes nothing.
use Rattle.std.specs.Prelude.{Bool, false, cond, ◌||◌, List, [], ◌∷◌, ◌++◌, ℕ, zero, suc, ◌+◌, ◌*◌, eqb, ℤ, get_or}
use Rattle.form.specs.Form.{filled}
use Rattle.report.specs.declared.totals.Totals.{Totals}
use Rattle.report.specs.Totals.{with_user}
use Rattle.year.specs.declared.MemberYear.{MemberYear}
use Rattle.year.specs.declared.Year.{Year}
use Rattle.year.specs.Year.{no_months}
use Rattle.annual.specs.Forms.{head_form, member_form, member_values, foot_form, foot_values}
use Rattle.annual.specs.Sums.{year_totals}

-- one of the first so many months is present
unfoldable pub is_present : List Bool → ℕ → Bool
is_present months zero = false
is_present months (suc n) = is_present months n || get_or months n false

-- no line of a member that is in no month
unfoldable pub line_text : ℕ → MemberYear → List ℕ
line_text number m = cond (is_present m.months 12) (filled member_form (member_values number m)) []

-- the lines of so many members, by their numbers from 1 on
unfoldable pub members_text : List MemberYear → ℕ → List ℕ
members_text ms zero = []
members_text ms (suc n) = members_text ms n ++ line_text (suc n) (get_or ms n no_months)

-- what stands below the lines
unfoldable pub foot_text : ℤ → Totals → List ℕ
foot_text users t = filled foot_form (foot_values users t)

-- a line for each member that is in a month, the users' sum, and the sums with it
unfoldable pub year_of_text : ℕ → Year → List ℕ
year_of_text area y =
    filled head_form (area ∷ y.year ∷ y.count ∷ []) ++ members_text y.members 64 ++ foot_text y.users.0 (with_user (year_totals y.members 64) y.users.0)

-- THE YEAR AS PEOPLE READ IT; no text of a year that is refused
unfoldable pub year_text : ℕ → Year → List ℕ
year_text area y = cond (eqb y.number 0) (year_of_text area y) []

-- the most bytes of the first line, of a member's, of what stands below, and of all
abbrev pub most_head : ℕ
most_head = 80

abbrev pub most_line : ℕ
most_line = 271

abbrev pub most_foot : ℕ
most_foot = 146

abbrev pub most_year : ℕ
most_year = most_head + 64 * most_line + most_foot
