-- What a walk over a register has still to tell. It serves the contracts of the walk alone; what is wrong with a register is in Faults. Assumes nothing.
use Rattle.std.specs.Prelude.{◌≡◌, ℕ, ◌+◌, ◌%◌, ◌^◌, ◌<◌, ◌≤◌, true, false, List, [], ◌∷◌, length, take, drop, slice_index, cond, ◌==◌, Option, Some, None, is_none}
use Rattle.row.specs.Numbers.{line_feed, is_digit}
use Rattle.grid.specs.declared.Grid.{Grid}
use Rattle.grid.specs.Meaning.{head_left, blank_left, row_left, rows_left, Next}
use Rattle.faults.specs.declared.Found.{Found}
use Rattle.faults.specs.declared.Cells.{Cells}
use Rattle.faults.specs.declared.Walk.{Walk}
use Rattle.faults.specs.declared.Faulted.{Faulted}
use Rattle.faults.specs.Faults.{faults_from}

-- the first of some faults, or that there is none
abbrev pub first_of : List Found → Option Found
first_of [] = None
first_of (found ∷ more) = Some found

-- the line of a text's first row, where these bytes tell it: at a digit its first, at the end of a line without one its second
unfoldable pub first_row : List ℕ → Option ℕ
first_row [] = None
first_row (b ∷ bs) = cond (b == line_feed) (Some 2) (cond (is_digit b) (Some 1) (first_row bs))

-- what its cells say, as they are
abbrev pub as_told : List ℕ → List ℕ
as_told row = row

-- no list is as long as this
abbrev pub most_size : ℕ
most_size = 9223372036854775808

-- the walk has these faults of a text still to tell; past its end there are none
pub record Walks (text : List ℕ) (walk : Walk) (left : List Found) : Type 0 where
  pub small : length text < most_size
  pub within : walk.at ≤ length text + 1
  pub past : length text < walk.at → left ≡ []
  pub few : walk.line + walk.blanks ≤ walk.at + 2
  pub room : length walk.ended ≡ 8
  pub says : faults_from walk.table walk.line walk.before (rows_left as_told walk.blanks walk.grid walk.ended (drop walk.at text)) ≡ left

-- it stands at the end of its line, or of the text
abbrev pub AtEnd : List ℕ → Walk → Type 0
AtEnd text walk = walk.at < length text → slice_index text walk.at ≡ line_feed

-- it has come to the end of its line
pub record ToEnd (text : List ℕ) (walk r : Walk) : Type 0 where
  pub on : walk.at ≤ r.at
  pub within : walk.at ≤ length text → r.at ≤ length text
  pub ends : AtEnd text r
  pub same : (left : List Found) → Walks text walk left → Walks text r left

-- the line that ends there is told, or passed over; at the text's end there is no other
pub record Ended (text : List ℕ) (walk : Walk) (r : Faulted) : Type 0 where
  pub none : is_none r.found ≡ true → r.found ≡ first_of []
  pub on : is_none r.found ≡ true → (left : List Found) → Walks text walk left → walk.at ≤ length text → Walks text r.walk left
  pub done : is_none r.found ≡ true → (left : List Found) → Walks text walk left → length text ≤ walk.at → left ≡ []
  pub bad : is_none r.found ≡ false → (left : List Found) → Walks text walk left → (r.found ≡ first_of left) × Walks text r.walk (drop 1 left)

-- what the cells of a line say that ends here: so many, in the first places of a list
pub record CellsOf (grid : Grid) (ended : List ℕ) (r : Cells) : Type 0 where
  pub few : r.count ≤ 8
  pub some : 1 ≤ r.count
  pub are : row_left as_told grid ended [] ≡ take r.count r.cells

-- the walk behind the end of its line, with another line, number and count of blank lines
pub record Passes (walk : Walk) (line before blanks : ℕ) (r : Faulted) : Type 0 where
  pub found : r.found ≡ first_of []
  pub table : r.walk.table ≡ walk.table
  pub at : r.walk.at ≡ (walk.at + 1) % 2 ^ 64
  pub next : Next walk.grid r.walk.grid
  pub ended : r.walk.ended ≡ walk.ended
  pub numbers : (r.walk.line ≡ line) × (r.walk.before ≡ before) × (r.walk.blanks ≡ blanks)

-- the line that ends here is one, and no blank line is held back; and one is
pub record IsLine (walk : Walk) : Type 0 where
  pub head : head_left walk.grid [] ≡ false
  pub blank : blank_left walk.grid [] ≡ false
  pub none : walk.blanks ≡ 0

pub record IsHeld (walk : Walk) : Type 0 where
  pub head : head_left walk.grid [] ≡ false
  pub blank : blank_left walk.grid [] ≡ false
  pub some : 1 ≤ walk.blanks
