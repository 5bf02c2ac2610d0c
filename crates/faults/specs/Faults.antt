-- WHAT IS WRONG WITH A REGISTER, OR A SERIES: every line that counts is judged by itself; of a register its number against that of the line before, where that has one.
-- Assumes nothing.
use Rattle.std.specs.Prelude.{ℕ, suc, Bool, true, false, cond, ◌&&◌, List, [], ◌∷◌, length, ◌==◌, nat_le, nat_lt, slice_index, Option, Some, None}
use Rattle.row.specs.Numbers.{lines_of, ceiling}
use Rattle.grid.specs.Grid.{has_digit, commas, unmarked}
use Rattle.grid.specs.Told.{none_told, rows_by}
use Rattle.pay.specs.Member.{most_member, most_rated}
use Rattle.pay.specs.Kinds.{coal, new_storage}
use Rattle.score.specs.Series.{most_output}
use Rattle.share.specs.Sharing.{most_status, most_energy, most_assessment}
use Rattle.ceiling.specs.Ceiling.{most_limit}
use Rattle.tables.specs.Register.{register_columns}
use Rattle.tables.specs.Series.{series_columns}
use Rattle.faults.specs.declared.Table.{Table}
use Rattle.faults.specs.declared.Table.TheVariants.{Register, Series}
use Rattle.faults.specs.declared.Wrong.{Wrong}
use Rattle.faults.specs.declared.Wrong.TheVariants.{Blank, Columns, NoNumber, Outside, NotAbove}
use Rattle.faults.specs.declared.Found.{Found}

-- A column, counted from 1

-- what its cell says is a number, and within limits
unfoldable pub column_fault : ℕ → ℕ → ℕ → ℕ → Option Wrong
column_fault column least most n = cond (nat_lt ceiling n) (Some (NoNumber column least most)) (cond (nat_le least n && nat_le n most) None (Some (Outside column n least most)))

-- what the limit's cell says is none, or a number within limits
unfoldable pub limit_fault : ℕ → Option Wrong
limit_fault n = cond (n == none_told) None (column_fault 7 0 most_limit n)

-- nothing is wrong
abbrev pub is_sound : Option Wrong → Bool
is_sound None = true
is_sound (Some wrong) = false

-- a first fault, and only where there is none, a second one
abbrev pub or_else : Option Wrong → Option Wrong → Option Wrong
or_else None second = second
or_else (Some first) second = Some first

-- the number of a line is above that of the line before
unfoldable pub rising_fault : ℕ → ℕ → Option Wrong
rising_fault before n = cond (nat_lt before n) None (Some (NotAbove n before))

-- A line, by what its cells say

-- the first of a register line's cells that is wrong: number, kind, rated kW, status, energy, assessment, limit
unfoldable pub entry_fault : List ℕ → Option Wrong
entry_fault row =
    or_else (column_fault 1 1 most_member (slice_index row 0)) (or_else (column_fault 2 coal new_storage (slice_index row 1))
    (or_else (column_fault 3 1 most_rated (slice_index row 2)) (or_else (column_fault 4 0 most_status (slice_index row 3))
    (or_else (column_fault 5 0 most_energy (slice_index row 4)) (or_else (column_fault 6 0 most_assessment (slice_index row 5)) (limit_fault (slice_index row 6)))))))

-- how many cells a line has, and what is wrong with them: of a register line with sound cells, that its number does not rise; of a series, its one output
unfoldable pub columns_of : Table → ℕ
columns_of Register = register_columns
columns_of Series = series_columns

unfoldable pub cells_fault : Table → ℕ → List ℕ → Option Wrong
cells_fault Register before row = or_else (entry_fault row) (rising_fault before (slice_index row 0))
cells_fault Series before row = column_fault 1 0 most_output (slice_index row 0)

-- what is wrong with a line behind the number before: it is blank, has more cells or fewer, or the first of them that is wrong
unfoldable pub line_fault : Table → ℕ → List ℕ → Option Wrong
line_fault table before row =
    cond (length row == 0) (Some Blank)
    (cond (length row == columns_of table) (cells_fault table before row) (Some (Columns (length row) (columns_of table))))

-- the number that the line behind is held against: its own where that is within its limits, otherwise none
unfoldable pub number_of : List ℕ → ℕ
number_of row = cond (nat_le 1 (slice_index row 0) && nat_le (slice_index row 0) most_member) (slice_index row 0) 0

-- A table

-- a fault at its line, with those behind it
abbrev pub adding : ℕ → Option Wrong → List Found → List Found
adding line None more = more
adding line (Some wrong) more = record { line = line; wrong = wrong } ∷ more

-- the faults of rows, the first of them at a line and behind a number
unfoldable pub faults_from : Table → ℕ → ℕ → List (List ℕ) → List Found
faults_from table line before [] = []
faults_from table line before (row ∷ rows) = adding line (line_fault table before row) (faults_from table (suc line) (number_of row) rows)

-- the first of some lines
abbrev pub first_in : List (List ℕ) → List ℕ
first_in [] = []
first_in (l ∷ ls) = l

-- where a text's rows begin, its lines counted from 1: behind a heading at the second
unfoldable pub first_line : List ℕ → ℕ
first_line text = cond (has_digit (first_in (lines_of (commas (unmarked text))))) 1 2

-- ALL THE FAULTS OF A TABLE'S TEXT, all its lines counted from 1
unfoldable pub table_faults : Table → List ℕ → List Found
table_faults table text = faults_from table (first_line text) 0 (rows_by (λ row. row) text)
