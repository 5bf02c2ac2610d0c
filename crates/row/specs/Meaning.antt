-- What the state of a row says: the numbers of a line of which it has read all but the rest. Which separator parts them and which number
-- is to be the last is told with it. It serves the contracts of the row alone; what a line says is in Numbers. Assumes nothing.
use Rattle.std.specs.Prelude.{◌≡◌, Bool, true, false, cond, not, ◌&&◌, ◌||◌, List, [], ◌∷◌, ◌++◌, map, ℕ, suc, ◌+◌, ltb, eqb, length, take}
use Rattle.row.specs.declared.Row.{Row}
use Rattle.row.specs.Numbers.{parts_of, digits, not_empty, numbers, value, hold, numbers_of}

-- the most numbers that a line may have
abbrev pub most_columns : ℕ
most_columns = 8

-- a byte of the line was read
abbrev pub row_is_begun : Row → Bool
row_is_begun row = row.bad || row.digit || ltb 0 row.at

-- the numbers are as many as they should be, if `p` is left of the open one and the parts `ps` come behind it
abbrev pub is_row : ℕ → Row → List ℕ → List (List ℕ) → Bool
is_row last row p ps = not row.bad && digits p && (row.digit || not_empty p) && numbers ps && eqb (row.at + length ps) last

-- they are, if the line ends here
abbrev pub row_is_whole : Row → ℕ → Bool
row_is_whole row last = is_row last row [] []

-- the first five of the numbers that ended
abbrev pub row_first_five : Row → List ℕ
row_first_five row = take 5 row.ended

-- those numbers; none where the line is bad
abbrev pub row_at : ℕ → Row → List ℕ → List (List ℕ) → List ℕ
row_at last row p ps = cond (is_row last row p ps) (take row.at row.ended ++ map hold (value row.value p ∷ map (value 0) ps)) []

-- the same by all its parts that are left, the open number first
abbrev pub row_parts : ℕ → Row → List (List ℕ) → List ℕ
row_parts last row [] = row_at last row [] []
row_parts last row (p ∷ ps) = row_at last row p ps

-- the numbers of the line, if `rest` is what is left of it
unfoldable pub row_numbers : ℕ → ℕ → Row → List ℕ → List ℕ
row_numbers separator last row rest = row_parts last row (parts_of separator rest)

-- the row before any byte of its line
pub record RowFresh (row : Row) : Type 0 where
  pub unread : row_is_begun row ≡ false
  pub line : (separator last : ℕ) (rest : List ℕ) → row_numbers separator last row rest ≡ numbers_of separator (suc last) rest

-- the row after a byte of its line
pub record RowFollows (separator last : ℕ) (row : Row) (b : ℕ) (r : Row) : Type 0 where
  pub begun : row_is_begun r ≡ true
  pub line : (rest : List ℕ) → row_numbers separator last r rest ≡ row_numbers separator last row (b ∷ rest)
