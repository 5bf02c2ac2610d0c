-- The sums below a year's table. Assumes nothing.
use Rattle.std.specs.Prelude.{ℕ, zero, suc, get_or, List}
use Rattle.year.specs.declared.MemberYear.{MemberYear}
use Rattle.year.specs.Year.{no_months}
use Rattle.report.specs.declared.totals.Totals.{Totals}
use Rattle.report.specs.Totals.{with_line, no_lines}

-- the sums with one member's year more
unfoldable pub with_member : Totals → MemberYear → Totals
with_member t m = with_line t m.sums.compensation.0 m.sums.assessment.0 m.sums.amount.0

-- the sums of so many members: compensation, assessment, what is due to members and what members owe
unfoldable pub year_totals : List MemberYear → ℕ → Totals
year_totals ms zero = no_lines
year_totals ms (suc n) = with_member (year_totals ms n) (get_or ms n no_months)
