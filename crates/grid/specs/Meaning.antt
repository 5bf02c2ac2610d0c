-- What the reader's state says: the rows of a text of which it has read all but the rest. It serves the contracts of the reader alone; what a text says is in Grid.
-- Assumes nothing.
use Rattle.std.specs.Prelude.{◌≡◌, Bool, true, false, cond, not, ◌&&◌, List, [], ◌∷◌, ◌++◌, map, ℕ, suc, ◌+◌, ◌-◌, ◌≤◌, ◌<◌, eqb, leb, ltb, length, take, drop, replicate, get_or}
use Rattle.row.specs.Numbers.{line_feed, not_empty, lines_of, parts_of, is_digit, digits, value, ceiling, hold}
use Rattle.row.specs.Meaning.{most_columns}
use Rattle.grid.specs.declared.cell.Cell.{Cell}
use Rattle.grid.specs.declared.cell.Cell.TheVariants.{Fresh, Bare, Opened, Quoted, Dashed, Closed, Bad}
use Rattle.grid.specs.declared.Grid.{Grid}
use Rattle.grid.specs.declared.Step.{Step}
use Rattle.grid.specs.declared.cell.Run.{Run}
use Rattle.grid.specs.Grid.{mark, begins_with, comma, is_separator, separator_of, as_comma, commas, has_digit, carriage_return, plain, is_blank, trimmed, closing, unquoted}
use Rattle.grid.specs.Told.{dash, no_number, none_told, told, row_in, rows_by}

-- Cells

-- what a cell says whose digits so far are worth v
abbrev pub told_behind : ℕ → List ℕ → ℕ
told_behind v p = cond (digits p) (hold (value v p)) no_number

-- what the open cell says, if `p` is left of it
unfoldable pub told_left : Cell → List ℕ → ℕ
told_left Fresh p = told (unquoted p)
told_left (Bare v) p = told_behind v p
told_left Opened p = told (closing p)
told_left (Quoted v) p = told_behind v (closing p)
told_left Dashed p = told (dash ∷ closing p)
told_left (Closed n) p = cond (not_empty p) no_number n
told_left Bad p = no_number

-- what it says, if it ends here
abbrev pub cell_told : Cell → ℕ
cell_told cell = told_left cell []

-- what its digits so far are worth
abbrev pub cell_so_far : Cell → ℕ
cell_so_far Fresh = 0
cell_so_far (Bare v) = v
cell_so_far Opened = 0
cell_so_far (Quoted v) = v
cell_so_far Dashed = 0
cell_so_far (Closed n) = 0
cell_so_far Bad = 0

-- the cell behind digits more, after which they are worth v
abbrev pub cell_digits : Cell → ℕ → Cell
cell_digits Fresh v = Bare v
cell_digits (Bare u) v = Bare v
cell_digits Opened v = Quoted v
cell_digits (Quoted u) v = Quoted v
cell_digits Dashed v = Bad
cell_digits (Closed n) v = Bad
cell_digits Bad v = Bad

-- the cell behind a quote
abbrev pub cell_quote : Cell → Cell
cell_quote Fresh = Opened
cell_quote (Bare v) = Bad
cell_quote Opened = Bad
cell_quote (Quoted v) = Closed (hold v)
cell_quote Dashed = Closed none_told
cell_quote (Closed n) = Bad
cell_quote Bad = Bad

-- the cell behind a dash
abbrev pub cell_dash : Cell → Cell
cell_dash Fresh = Closed none_told
cell_dash (Bare v) = Bad
cell_dash Opened = Dashed
cell_dash (Quoted v) = Bad
cell_dash Dashed = Bad
cell_dash (Closed n) = Bad
cell_dash Bad = Bad

-- the digits from byte i of a text on, behind digits that are worth v
pub record RunFrom (text : List ℕ) (i v : ℕ) (r : Run) : Type 0 where
  pub read : List ℕ
  pub stands : drop i text ≡ read ++ drop r.end text
  pub all : digits read ≡ true
  pub long : r.end ≡ i + length read
  pub within : r.end ≤ length text
  pub whole : r.end < length text → is_digit (get_or text r.end 0) ≡ false
  pub worth : (p : List ℕ) → hold (value r.value p) ≡ hold (value v (read ++ p))

-- Lines

-- every cell is a number
abbrev pub all_told : List ℕ → Bool
all_told [] = true
all_told (n ∷ ns) = leb n ceiling && all_told ns

-- the numbers of a line of so many, by what its cells say
abbrev pub row_by : ℕ → List ℕ → List ℕ
row_by columns ns = cond (eqb (length ns) columns && all_told ns) ns []

-- what the first cells say: those that ended, the open one by what is left of it, and the parts behind it
abbrev pub cells_left : ℕ → List ℕ → Cell → List (List ℕ) → List ℕ
cells_left at ended cell [] = take most_columns (take at ended ++ told_left cell [] ∷ [])
cells_left at ended cell (p ∷ ps) = take most_columns (take at ended ++ told_left cell p ∷ map told (map unquoted ps))

-- what is left of a line without the carriage return at its end, one of which may be held back
abbrev pub plain_left : Bool → List ℕ → List ℕ
plain_left false l = plain l
plain_left true [] = []
plain_left true (b ∷ l) = carriage_return ∷ plain (b ∷ l)

-- the line is a heading; it is blank; what it says of what its cells say: if `l` is left of it
unfoldable pub head_left : Grid → List ℕ → Bool
head_left g l = ltb g.stage 4 && not (has_digit l)

unfoldable pub blank_left : Grid → List ℕ → Bool
blank_left g l = not g.filled && is_blank (plain_left g.shut l)

-- a blank line is held back behind the line, if it ends here: a heading leaves what was before it
abbrev pub blank_behind : Grid → Bool → Bool
blank_behind g before = cond (head_left g []) before (blank_left g [])

unfoldable pub row_left : (List ℕ → List ℕ) → Grid → List ℕ → List ℕ → List ℕ
row_left say g ended l = say (cells_left g.at ended g.cell (parts_of comma (plain_left g.shut l)))

-- Rows. `k` blank lines are held back: they count where another line stands behind them.

-- so many blank lines and these rows behind them
unfoldable pub blanks_then : ℕ → List (List ℕ) → List (List ℕ)
blanks_then k [] = []
blanks_then k (row ∷ rows) = replicate k [] ++ row ∷ rows

-- a line and these rows behind it: nothing of a heading, one blank line more, or the line
unfoldable pub line_then : ℕ → Bool → Bool → List ℕ → List (List ℕ) → List (List ℕ)
line_then k heading blank row rows = cond heading (blanks_then k rows) (cond blank (blanks_then (suc k) rows) (replicate k [] ++ row ∷ rows))

-- the rows of whole lines
abbrev pub rows_in : (List ℕ → List ℕ) → List (List ℕ) → List (List ℕ)
rows_in say ls = map (row_in say) (trimmed (map plain ls))

-- the line that is being read, `l` of it left, and whole lines behind it
abbrev pub line_left : (List ℕ → List ℕ) → ℕ → Grid → List ℕ → List ℕ → List (List ℕ) → List (List ℕ)
line_left say k g ended l ls = line_then k (head_left g l) (blank_left g l) (row_left say g ended l) (rows_in say ls)

abbrev pub lines_left : (List ℕ → List ℕ) → ℕ → Grid → List ℕ → List (List ℕ) → List (List ℕ)
lines_left say k g ended [] = line_left say k g ended [] []
lines_left say k g ended (l ∷ ls) = line_left say k g ended l ls

-- the file's separator: the one that was read, or the first that is left
abbrev pub separator_left : ℕ → List ℕ → ℕ
separator_left separator rest = cond (is_separator separator) separator (separator_of rest)

-- what is left, by lines
unfoldable pub lines_by : ℕ → List ℕ → List (List ℕ)
lines_by separator rest = lines_of (map (as_comma (separator_left separator rest)) rest)

-- the state before the first line, and the rows of a text behind its mark
abbrev pub grid_first : Grid
grid_first = record { stage = 3; separator = 0; filled = false; shut = false; cell = Fresh; at = 0 }

unfoldable pub rows_behind : (List ℕ → List ℕ) → ℕ → List ℕ → List ℕ → List (List ℕ)
rows_behind say k ended text = lines_left say k grid_first ended (lines_of (commas text))

-- the mark may still come whole
unfoldable pub marks_on : ℕ → List ℕ → Bool
marks_on stage rest = ltb stage 3 && begins_with (drop stage mark) rest

-- THE ROWS THAT ARE LEFT, if `rest` is what is left of the text
unfoldable pub rows_left : (List ℕ → List ℕ) → ℕ → Grid → List ℕ → List ℕ → List (List ℕ)
rows_left say k g ended rest =
    cond (marks_on g.stage rest) (rows_behind say k ended (drop (3 - g.stage) rest)) (lines_left say k g ended (lines_by g.separator rest))

-- the rows of the whole lines that are left behind a line feed
unfoldable pub rows_after : (List ℕ → List ℕ) → Grid → List ℕ → List (List ℕ)
rows_after say g rest = rows_in say (lines_by g.separator rest)

-- STEPS

-- a carriage return with a byte of its line behind it is a byte like any other
abbrev pub grid_opened : Grid → Grid
grid_opened g = cond g.shut (record { stage = g.stage; separator = g.separator; filled = true; shut = false; cell = Bad; at = g.at }) g

-- the mark goes on with a byte
abbrev pub mark_goes_on : ℕ → ℕ → Bool
mark_goes_on stage b = ltb stage 3 && eqb b (get_or mark stage 0)

-- the mark does not go on: what was read is of the first line
abbrev pub grid_begun : Grid → Grid
grid_begun g =
    record { stage = cond (ltb g.stage 3) 3 g.stage; separator = g.separator; filled = g.filled; shut = g.shut; cell = g.cell; at = g.at }

-- the first separator is the file's
abbrev pub grid_known : Grid → ℕ → Grid
grid_known g b =
    record { stage = g.stage; separator = cond (is_separator g.separator) g.separator b; filled = g.filled; shut = g.shut; cell = g.cell; at = g.at }

-- a byte that no cell has
abbrev pub grid_spoilt : Grid → Grid
grid_spoilt g = record { stage = g.stage; separator = g.separator; filled = true; shut = g.shut; cell = Bad; at = g.at }

-- digits, after which those of the open cell are worth v
abbrev pub grid_digits : Grid → ℕ → Grid
grid_digits g v = record { stage = 4; separator = g.separator; filled = true; shut = g.shut; cell = cell_digits g.cell v; at = g.at }

-- the first line is being read, or another, and no carriage return is held back
pub record InLine (g : Grid) : Type 0 where
  pub stage : 3 ≤ g.stage
  pub clear : g.shut ≡ false

-- THE CONTRACTS

-- the state says of a rest what another says of that rest behind a byte
pub record Follows (g : Grid) (ended : List ℕ) (b : ℕ) (r : Grid) (after : List ℕ) : Type 0 where
  pub rows : (say : List ℕ → List ℕ) (k : ℕ) (rest : List ℕ) → rows_left say k r after rest ≡ rows_left say k g ended (b ∷ rest)

-- no line ends in these bytes
abbrev pub no_feed : List ℕ → Bool
no_feed [] = true
no_feed (b ∷ bs) = not (eqb b line_feed) && no_feed bs

-- the state after a step from byte i of a text, over some bytes of its line
pub record StepFrom (text : List ℕ) (i : ℕ) (g : Grid) (ended : List ℕ) (r : Step) (after : List ℕ) : Type 0 where
  pub on : i < r.end
  pub within : r.end ≤ length text
  pub read : List ℕ
  pub stands : drop i text ≡ read ++ drop r.end text
  pub line : no_feed read ≡ true
  pub rows : (say : List ℕ → List ℕ) (k : ℕ) (rest : List ℕ) → rows_left say k r.grid after rest ≡ rows_left say k g ended (read ++ rest)

-- the state before any byte
pub record Starts (g : Grid) : Type 0 where
  pub rows : (say : List ℕ → List ℕ) (ended rest : List ℕ) → rows_left say 0 g ended rest ≡ rows_by say rest

-- the state after a line feed
pub record Next (g r : Grid) : Type 0 where
  pub rows : (say : List ℕ → List ℕ) (k : ℕ) (ended rest : List ℕ) → rows_left say k r ended rest ≡ blanks_then k (rows_after say g rest)
