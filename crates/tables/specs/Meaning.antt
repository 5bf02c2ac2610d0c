-- What a reader's state says: the answer of a text of which it has read all but the rest. It serves the contracts of the readers' parts
-- alone; what a text says is in Register and Series. Assumes nothing.
use Rattle.std.specs.Prelude.{◌≡◌, cond, List, [], ◌∷◌, ◌++◌, map, ℕ, ◌+◌, ◌≤◌, ltb, length, set, take}
use Rattle.row.specs.Meaning.{most_columns}
use Rattle.row.specs.Inner.{fair_by, SoFar, judged_on}
use Rattle.grid.specs.declared.Grid.{Grid}
use Rattle.grid.specs.Meaning.{row_by, head_left, blank_left, row_left, blanks_then, line_then}
use Rattle.register.specs.declared.Entry.{Entry}
use Rattle.tables.specs.declared.roll.Register.{Register}
use Rattle.tables.specs.declared.roll.Roll.{Roll}
use Rattle.tables.specs.declared.series.Place.{Place}
use Rattle.tables.specs.Register.{register_row, as_entry, register_entries}
use Rattle.tables.specs.Series.{Filled, series_columns, output_of}

-- The register

-- what seven cells say, the last of them by itself
abbrev pub seven_of : List ℕ → ℕ → List ℕ
seven_of ended last = take 6 ended ++ last ∷ []

-- an entry that is not sound after no number is as bad as a blank one
abbrev pub fair_entry : Entry → Entry
fair_entry e = fair_by register_entries e

-- what the cells of an entry say, if its line ends here
abbrev pub entry_cells : Grid → List ℕ → List ℕ
entry_cells grid ended = row_left register_row grid ended []

-- the entry, if its line ends here
abbrev pub entry_in : Grid → List ℕ → Entry
entry_in grid ended = fair_entry (as_entry (entry_cells grid ended))

-- a roll's entries, as they are judged so far
abbrev pub roll_so_far : Roll → SoFar Entry
roll_so_far roll = record { refused = roll.refused; before = roll.before; count = roll.count; all = roll.entries }

-- the answer, if these rows are left
abbrev pub roll_outcome : Roll → List (List ℕ) → Register
roll_outcome roll rows = judged_on register_entries (roll_so_far roll) (map as_entry rows)

-- one blank line is held back, or none: a second one changes no answer
abbrev pub roll_blanks : Roll → ℕ
roll_blanks roll = cond roll.blank 1 0

-- the line that ends here, and these rows behind it
abbrev pub line_ends : (List ℕ → List ℕ) → ℕ → Grid → List ℕ → List (List ℕ) → List (List ℕ)
line_ends say k grid ended rows = line_then k (head_left grid []) (blank_left grid []) (row_left say grid ended []) rows

-- The series

-- the output that the line says, if it ends here
abbrev pub output_in : Grid → List ℕ → ℕ
output_in grid ended = output_of (row_left (row_by series_columns) grid ended [])

-- the rows' outputs put into a lent list from place n on, as far as it goes
abbrev pub fill_from : List ℕ → ℕ → List (List ℕ) → Filled
fill_from out n [] = record { count = n; values = out }
fill_from out n (ns ∷ rows) = cond (ltb n (length out)) (fill_from (set out n (output_of ns)) (n + 1) rows) (record { count = n; values = out })

-- no list is as long as this
abbrev pub most_size : ℕ
most_size = 9223372036854775808

-- a line that ends here, put to its place of a lent list
pub record PutLine (grid : Grid) (before : List ℕ) (place : Place) (after : List ℕ) (r : Place) : Type 0 where
  pub few : r.blanks ≤ place.blanks + 1
  pub rows : (ended : List ℕ) (rows : List (List ℕ)) → most_columns ≤ length ended
      → fill_from after r.next (blanks_then r.blanks rows) ≡ fill_from before place.next (line_ends (row_by series_columns) place.blanks grid ended rows)
