-- What the cells of a table say, numbers, none or neither: of this a reader makes its rows, and whoever has to tell what is wrong with a line his words. Assumes nothing.
use Rattle.std.specs.Prelude.{Bool, false, cond, not, ◌&&◌, List, [], ◌∷◌, map, ℕ, eqb, take}
use Rattle.row.specs.Numbers.{not_empty, is_number, value, hold}
use Rattle.row.specs.Meaning.{most_columns}
use Rattle.grid.specs.Grid.{is_blank, cells_of, body_of}

-- NONE is said by a cell that is `-` alone
abbrev pub dash : ℕ
dash = 45

abbrev pub is_dash : List ℕ → Bool
is_dash [] = false
is_dash (b ∷ bs) = eqb b dash && not (not_empty bs)

-- 10^12 + 1 stands for a cell that is no number, 10^12 + 2 for one that says none; both are above every limit
abbrev pub no_number : ℕ
no_number = 1000000000001

abbrev pub none_told : ℕ
none_told = 1000000000002

-- what a cell says: its number, held; none; or that it is no number
abbrev pub told : List ℕ → ℕ
told p = cond (is_number p) (hold (value 0 p)) (cond (is_dash p) none_told no_number)

-- what is said of a line by what its first eight cells say; nothing of a blank line
unfoldable pub row_in : (List ℕ → List ℕ) → List ℕ → List ℕ
row_in say line = cond (is_blank line) [] (say (take most_columns (map told (cells_of line))))

-- the same of each line of a text that counts
unfoldable pub rows_by : (List ℕ → List ℕ) → List ℕ → List (List ℕ)
rows_by say text = map (row_in say) (body_of text)
