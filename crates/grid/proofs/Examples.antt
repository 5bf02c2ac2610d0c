-- Texts as spreadsheets save them, and their rows: each thing that is read once, what stays bad, and what cells say. Assumes nothing.
use mathlib.Core.Path.{◌≡◌, refl}
use mathlib.Core.List.{List, [], ◌∷◌, ◌++◌, map}
use Prim.Native.Nat.{ℕ}
use Rattle.row.specs.Numbers.{numbers_in}
use Rattle.grid.specs.Grid.{cells_of, row_of, rows_of}
use Rattle.grid.specs.Told.{no_number, none_told, told}

-- "1,2" and "30,4", and the two as lines
abbrev first : List ℕ
first = 49 ∷ 44 ∷ 50 ∷ []

abbrev second : List ℕ
second = 51 ∷ 48 ∷ 44 ∷ 52 ∷ []

abbrev both : List ℕ
both = first ++ 10 ∷ second ++ 10 ∷ []

abbrev rows : List (List ℕ)
rows = (1 ∷ 2 ∷ []) ∷ (30 ∷ 4 ∷ []) ∷ []

-- "no,kW"
abbrev heading : List ℕ
heading = 110 ∷ 111 ∷ 44 ∷ 107 ∷ 87 ∷ 10 ∷ []

-- A plain text; and its last line without a line feed.
pub plain_read : rows_of 2 both ≡ rows
unfolding rows_of row_of numbers_in
plain_read = refl

pub open_read : rows_of 2 (first ++ 10 ∷ second) ≡ rows
unfolding rows_of row_of numbers_in
open_read = refl

-- A byte order mark; one heading line; both.
pub mark_read : rows_of 2 (239 ∷ 187 ∷ 191 ∷ both) ≡ rows
unfolding rows_of row_of numbers_in
mark_read = refl

pub heading_read : rows_of 2 (heading ++ both) ≡ rows
unfolding rows_of row_of numbers_in
heading_read = refl

pub marked_heading_read : rows_of 2 (239 ∷ 187 ∷ 191 ∷ heading ++ both) ≡ rows
unfolding rows_of row_of numbers_in
marked_heading_read = refl

-- Blank last lines, with and without commas: "" "," ",,,".
pub blank_read : rows_of 2 (both ++ 10 ∷ 44 ∷ 10 ∷ 44 ∷ 44 ∷ 44 ∷ []) ≡ rows
unfolding rows_of row_of numbers_in
blank_read = refl

-- Carriage returns, at a blank last line too.
pub return_read : rows_of 2 (first ++ 13 ∷ 10 ∷ second ++ 13 ∷ 10 ∷ 44 ∷ 13 ∷ 10 ∷ []) ≡ rows
unfolding rows_of row_of numbers_in
return_read = refl

-- Semicolons "1;2", and tabs.
pub semicolon_read : rows_of 2 (49 ∷ 59 ∷ 50 ∷ 10 ∷ 51 ∷ 48 ∷ 59 ∷ 52 ∷ []) ≡ rows
unfolding rows_of row_of numbers_in
semicolon_read = refl

pub tab_read : rows_of 2 (49 ∷ 9 ∷ 50 ∷ 10 ∷ 51 ∷ 48 ∷ 9 ∷ 52 ∷ []) ≡ rows
unfolding rows_of row_of numbers_in
tab_read = refl

-- Quoted numbers: "\"1\",2" and "30,\"4\"".
pub quotes_read : rows_of 2 (34 ∷ 49 ∷ 34 ∷ 44 ∷ 50 ∷ 10 ∷ 51 ∷ 48 ∷ 44 ∷ 34 ∷ 52 ∷ 34 ∷ 13 ∷ 10 ∷ []) ≡ rows
unfolding rows_of row_of numbers_in
quotes_read = refl

-- WHAT STAYS BAD has no numbers: a first line with a digit that is no row, as "m1,2"; a second heading; a blank line inside; a comma in a file of semicolons; "\"31,2\"", in
-- which a comma parts; a quote that is not closed; a mark that is not at the start.
pub no_heading : rows_of 2 (109 ∷ first ++ 10 ∷ second) ≡ [] ∷ (30 ∷ 4 ∷ []) ∷ []
unfolding rows_of row_of numbers_in
no_heading = refl

pub second_heading : rows_of 2 (heading ++ heading ++ first) ≡ [] ∷ (1 ∷ 2 ∷ []) ∷ []
unfolding rows_of row_of numbers_in
second_heading = refl

pub blank_inside : rows_of 2 (first ++ 10 ∷ 10 ∷ 44 ∷ 10 ∷ second) ≡ (1 ∷ 2 ∷ []) ∷ [] ∷ [] ∷ (30 ∷ 4 ∷ []) ∷ []
unfolding rows_of row_of numbers_in
blank_inside = refl

pub comma_among_semicolons : rows_of 2 (49 ∷ 59 ∷ 50 ∷ 10 ∷ second) ≡ (1 ∷ 2 ∷ []) ∷ [] ∷ []
unfolding rows_of row_of numbers_in
comma_among_semicolons = refl

pub comma_in_quotes : rows_of 1 (34 ∷ 51 ∷ 49 ∷ 44 ∷ 50 ∷ 34 ∷ []) ≡ [] ∷ []
unfolding rows_of row_of numbers_in
comma_in_quotes = refl

pub quote_open : rows_of 2 (49 ∷ 44 ∷ 34 ∷ 50 ∷ []) ≡ [] ∷ []
unfolding rows_of row_of numbers_in
quote_open = refl

pub mark_late : rows_of 2 (both ++ 239 ∷ 187 ∷ 191 ∷ first) ≡ rows ++ [] ∷ []
unfolding rows_of row_of numbers_in
mark_late = refl

-- A dash is no number.
pub dash_no_number : rows_of 2 (49 ∷ 44 ∷ 45 ∷ []) ≡ [] ∷ []
unfolding rows_of row_of numbers_in
dash_no_number = refl

-- WHAT CELLS SAY, of the line `7,-,"-",--,-7,"-,`: a number; none, twice; and no number.
pub cells_told : map told (cells_of (55 ∷ 44 ∷ 45 ∷ 44 ∷ 34 ∷ 45 ∷ 34 ∷ 44 ∷ 45 ∷ 45 ∷ 44 ∷ 45 ∷ 55 ∷ 44 ∷ 34 ∷ 45 ∷ 44 ∷ []))
    ≡ 7 ∷ none_told ∷ none_told ∷ no_number ∷ no_number ∷ no_number ∷ no_number ∷ []
cells_told = refl
