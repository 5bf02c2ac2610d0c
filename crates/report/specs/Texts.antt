-- What people read of a month, byte by byte: money in yuan with two places. Assumes nothing.
use Rattle.std.specs.Prelude.{List, [], ◌++◌, ℕ, zero, suc, ◌+◌, ◌*◌, min, ℤ, get_or}
use Rattle.month.specs.declared.Row.{Row}
use Rattle.month.specs.declared.Statement.{Statement}
use Rattle.month.specs.Settling.{blank_row}
use Rattle.report.specs.declared.totals.Totals.{Totals}
use Rattle.form.specs.Form.{filled}
use Rattle.report.specs.Totals.{with_user, totals_of}
use Rattle.report.specs.Forms.{row_form, row_values, foot_form, foot_values}

-- a member's line
unfoldable pub row_text : Row → List ℕ
row_text r = filled row_form (row_values r)

-- the lines of so many members
unfoldable pub rows_text : List Row → ℕ → List ℕ
rows_text rows zero = []
rows_text rows (suc n) = rows_text rows n ++ row_text (get_or rows n blank_row)

-- what stands below the lines
unfoldable pub foot_text : ℤ → ℤ → ℕ → Totals → List ℕ
foot_text user gap part t = filled foot_form (foot_values user gap part t)

-- a line for each of so many members, the user's, and the sums with it
unfoldable pub month_of : Statement → ℕ → List ℕ
month_of s count = rows_text s.rows count ++ foot_text s.user.0 s.gap.0 s.part (with_user (totals_of s.rows count) s.user.0)

-- the month of all members, 64 at most
unfoldable pub month_text : Statement → List ℕ
month_text s = month_of s (min s.count 64)

-- the most bytes of a line, of what stands below the lines, and of both
abbrev pub most_row : ℕ
most_row = 346

abbrev pub most_foot : ℕ
most_foot = 199

abbrev pub most_month : ℕ
most_month = 64 * most_row + most_foot
