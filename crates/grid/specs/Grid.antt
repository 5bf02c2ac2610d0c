-- A TABLE'S TEXT, as a spreadsheet saves it: lines of decimal numbers parted by single commas, semicolons or tabs. Over the whole text; how it is read is not spoken of.
-- Assumes nothing.
use Rattle.std.specs.Prelude.{Bool, true, false, cond, not, ◌&&◌, ◌||◌, List, [], ◌∷◌, map, ℕ, eqb, drop}
use Rattle.row.specs.Numbers.{not_empty, lines_of, parts_of, is_digit, numbers_in, hold}

-- A MARK: some programs save these three bytes before the first line
abbrev pub mark : List ℕ
mark = 239 ∷ 187 ∷ 191 ∷ []

-- a text begins with these bytes
abbrev pub begins_with : List ℕ → List ℕ → Bool
begins_with [] bs = true
begins_with (m ∷ ms) [] = false
begins_with (m ∷ ms) (b ∷ bs) = eqb b m && begins_with ms bs

-- a text without its mark
abbrev pub unmarked : List ℕ → List ℕ
unmarked text = cond (begins_with mark text) (drop 3 text) text

-- ONE SEPARATOR A FILE: the first of comma, semicolon and tab in it
abbrev pub comma : ℕ
comma = 44

abbrev pub semicolon : ℕ
semicolon = 59

abbrev pub tab : ℕ
tab = 9

abbrev pub is_separator : ℕ → Bool
is_separator b = eqb b comma || eqb b semicolon || eqb b tab

abbrev pub separator_of : List ℕ → ℕ
separator_of [] = comma
separator_of (b ∷ bs) = cond (is_separator b) b (separator_of bs)

-- it is read as a comma; a comma that is not the file's separator parts nothing
abbrev pub as_comma : ℕ → ℕ → ℕ
as_comma separator b = cond (eqb b separator) comma (cond (eqb b comma) semicolon b)

abbrev pub commas : List ℕ → List ℕ
commas text = map (as_comma (separator_of text)) text

-- A HEADING: a first line in which no cell has a digit is left out
abbrev pub has_digit : List ℕ → Bool
has_digit [] = false
has_digit (b ∷ bs) = is_digit b || has_digit bs

abbrev pub headless : List (List ℕ) → List (List ℕ)
headless [] = []
headless (l ∷ ls) = cond (has_digit l) (l ∷ ls) ls

-- A CARRIAGE RETURN at the end of a line is left out
abbrev pub carriage_return : ℕ
carriage_return = 13

abbrev pub plain : List ℕ → List ℕ
plain [] = []
plain (b ∷ bs) = cond (eqb b carriage_return && not (not_empty bs)) [] (b ∷ plain bs)

-- BLANK LINES, of nothing or of commas alone, are left out where no other line stands behind them
abbrev pub is_blank : List ℕ → Bool
is_blank [] = true
is_blank (b ∷ bs) = eqb b comma && is_blank bs

abbrev pub unless_blank : List ℕ → List (List ℕ) → List (List ℕ)
unless_blank l [] = cond (is_blank l) [] (l ∷ [])
unless_blank l (k ∷ ks) = l ∷ k ∷ ks

abbrev pub trimmed : List (List ℕ) → List (List ℕ)
trimmed [] = []
trimmed (l ∷ ls) = unless_blank l (trimmed ls)

-- QUOTES around a cell are left out; a cell whose quotes are not its first and its last byte keeps one, and is no number
abbrev pub quote : ℕ
quote = 34

abbrev pub closing : List ℕ → List ℕ
closing [] = quote ∷ []
closing (b ∷ bs) = cond (eqb b quote && not (not_empty bs)) [] (b ∷ closing bs)

abbrev pub unquoted : List ℕ → List ℕ
unquoted [] = []
unquoted (b ∷ bs) = cond (eqb b quote) (closing bs) (b ∷ bs)

-- the cells of a line
abbrev pub cells_of : List ℕ → List (List ℕ)
cells_of line = map unquoted (parts_of comma line)

-- the numbers of a line of so many, each held; none where its cells are more or fewer, or one of them is no decimal number
unfoldable pub row_of : ℕ → List ℕ → List ℕ
row_of columns line = map hold (numbers_in columns (cells_of line))

-- the lines of a text that count
abbrev pub body_of : List ℕ → List (List ℕ)
body_of text = trimmed (map plain (headless (lines_of (commas (unmarked text)))))

-- THE ROWS OF A TABLE: the numbers of each line that counts
unfoldable pub rows_of : ℕ → List ℕ → List (List ℕ)
rows_of columns text = map (row_of columns) (body_of text)
