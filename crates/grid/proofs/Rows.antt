-- The rows of a text by its lines: before the first, behind a line feed, and at the text's end. Assumes nothing.
use mathlib.Core.Path.{◌≡◌, refl, ap, sym, ◌∙◌}
use mathlib.Core.Bool.{Bool, true, false, cond, not}
use mathlib.Core.List.{List, [], ◌∷◌, ◌++◌, map}
use Prim.Native.Nat.{ℕ, zero, suc, ◌<◌}
use native.Mathlib.Omega.{arith}
use lib.Dec.{eqb}
use borrow.Author.Tests.{lt-ltb}
use lib.ListN.{drop, take, replicate}
use Rattle.le.proofs.Tests.{each}
use Rattle.row.specs.Numbers.{lines_of, numbers_in}
use Rattle.row.specs.Meaning.{most_columns}
use Rattle.row.proofs.Texts.{by_parts}
use Rattle.grid.specs.declared.cell.Cell.TheVariants.{Fresh}
use Rattle.grid.specs.declared.Grid.{Grid}
use Rattle.grid.specs.Grid.{mark, begins_with, comma, commas, has_digit, headless, plain, is_blank, unless_blank, trimmed, unquoted, cells_of, row_of, body_of, rows_of}
use Rattle.grid.specs.Told.{told, row_in, rows_by}
use Rattle.grid.specs.Meaning.{told_left, row_by, cells_left, head_left, blank_left, row_left, blanks_then, line_then, rows_in, lines_left, lines_by}
use Rattle.grid.specs.Meaning.{rows_behind, grid_first, marks_on, rows_left, rows_after, Starts, Next}
use Rattle.grid.proofs.Cells.{row_told}
use Rattle.grid.proofs.Texts.{lines_feed, mark_ends, mark_stops, mark_low}

-- Blank lines

-- a blank line has no numbers
pub blank_row_lem : (columns : ℕ) (l : List ℕ) → is_blank l ≡ true → row_of columns l ≡ []
unfolding row_of numbers_in
blank_row_lem columns [] h = refl
blank_row_lem columns (b ∷ l) h = rw (each (eqb b comma) (is_blank l ∷ []) h).0

blanks_more : (k : ℕ) (rows : List (List ℕ)) → replicate k [] ++ [] ∷ rows ≡ [] ∷ (replicate k [] ++ rows)
blanks_more zero rows = refl
blanks_more (suc k) rows = ap (λ (x : List (List ℕ)). [] ∷ x) (blanks_more k rows)

pub blanks_none : (rows : List (List ℕ)) → blanks_then 0 rows ≡ rows
unfolding blanks_then
blanks_none [] = refl
blanks_none (row ∷ rows) = refl

-- a whole line and those behind it
line_law : (say : List ℕ → List ℕ) (k : ℕ) (l : List ℕ) (ls : List (List ℕ))
    → line_then k false (is_blank l) (say (take most_columns (map told (cells_of l)))) (map (row_in say) ls) ≡ blanks_then k (map (row_in say) (unless_blank l ls))
unfolding line_then blanks_then row_in
line_law say k l [] = go (is_blank l) refl
  where
    row : List ℕ
    row = say (take most_columns (map told (cells_of l)))

    go : (t : Bool) → is_blank l ≡ t → cond t [] (replicate k [] ++ row ∷ []) ≡ blanks_then k (map (row_in say) (cond t [] (l ∷ [])))
    go true e = refl
    go false e = sym (rw e)
line_law say k l (m ∷ ls) = go (is_blank l) refl
  where
    row : List ℕ
    row = say (take most_columns (map told (cells_of l)))

    go : (t : Bool) → is_blank l ≡ t
        → cond t (replicate (suc k) [] ++ row_in say m ∷ map (row_in say) ls) (replicate k [] ++ row ∷ row_in say m ∷ map (row_in say) ls)
        ≡ replicate k [] ++ cond t [] row ∷ row_in say m ∷ map (row_in say) ls
    go true e = sym (blanks_more k (row_in say m ∷ map (row_in say) ls))
    go false e = refl

-- Whole lines

-- the state before any byte of a line
abbrev pub fresh_at : ℕ → ℕ → Grid
fresh_at stage separator = record { stage = stage; separator = separator; filled = false; shut = false; cell = Fresh; at = 0 }

module _ (say : List ℕ → List ℕ) (k separator : ℕ) (ended : List ℕ) where
  fresh_row : (stage : ℕ) (l : List ℕ) → row_left say (fresh_at stage separator) ended l ≡ say (take most_columns (map told (cells_of (plain l))))
  unfolding row_left told_left
  fresh_row stage l = by_parts comma (λ ps. say (cells_left 0 ended Fresh ps) ≡ say (take most_columns (map told (map unquoted ps)))) (λ p ps. refl) (plain l)

  -- behind a line feed
  body_rows : (ls : List (List ℕ)) → lines_left say k (fresh_at 4 separator) ended ls ≡ blanks_then k (rows_in say ls)
  unfolding head_left blank_left line_then blanks_then
  body_rows [] = refl
  body_rows (l ∷ ls) =
      ap (λ (row : List ℕ). line_then k false (is_blank (plain l)) row (rows_in say ls)) (fresh_row 4 l) ∙ line_law say k (plain l) (trimmed (map plain ls))

  -- in the first line
  first_rows : (stage : ℕ) → stage < 4 → (ls : List (List ℕ)) → lines_left say k (fresh_at stage separator) ended ls ≡ blanks_then k (rows_in say (headless ls))
  unfolding head_left blank_left line_then blanks_then
  first_rows stage h [] = rw (lt-ltb stage 4 h)
  first_rows stage h (l ∷ ls) = rw (lt-ltb stage 4 h) (go (has_digit l))
    where
      go : (t : Bool) → line_then k (not t) (is_blank (plain l)) (row_left say (fresh_at stage separator) ended l) (rows_in say ls) ≡ blanks_then k (rows_in say (cond t (l ∷ ls) ls))
      go true = ap (λ (row : List ℕ). line_then k false (is_blank (plain l)) row (rows_in say ls)) (fresh_row stage l) ∙ line_law say k (plain l) (trimmed (map plain ls))
      go false = refl

-- The start

pub starts : Starts (fresh_at 0 0)
unfolding rows_left rows_behind lines_by marks_on rows_by
starts = record { rows = λ say ended rest. go say ended rest (begins_with mark rest) }
  where
    go : (say : List ℕ → List ℕ) (ended rest : List ℕ) (t : Bool)
        → cond t (lines_left say 0 grid_first ended (lines_of (commas (drop 3 rest)))) (lines_left say 0 (fresh_at 0 0) ended (lines_of (commas rest)))
        ≡ rows_in say (headless (lines_of (commas (cond t (drop 3 rest) rest))))
    go say ended rest true =
        first_rows say 0 0 ended 3 (omega arith) (lines_of (commas (drop 3 rest))) ∙ blanks_none (rows_in say (headless (lines_of (commas (drop 3 rest)))))
    go say ended rest false = first_rows say 0 0 ended 0 (omega arith) (lines_of (commas rest)) ∙ blanks_none (rows_in say (headless (lines_of (commas rest))))

-- the rows by their numbers
numbers_row : (columns : ℕ) (l : List ℕ) → columns < most_columns → row_by columns (take most_columns (map told (cells_of l))) ≡ row_of columns l
unfolding row_of
numbers_row columns l few = row_told columns (cells_of l) few

pub numbers_rows : (columns : ℕ) (text : List ℕ) → columns < most_columns → rows_by (row_by columns) text ≡ rows_of columns text
unfolding rows_by rows_of row_in
numbers_rows columns text few = all (body_of text)
  where
    one : (l : List ℕ) (t : Bool) → is_blank l ≡ t → cond t [] (row_by columns (take most_columns (map told (cells_of l)))) ≡ row_of columns l
    one l true e = sym (blank_row_lem columns l e)
    one l false e = numbers_row columns l few

    all : (ls : List (List ℕ)) → map (row_in (row_by columns)) ls ≡ map (row_of columns) ls
    all [] = refl
    all (l ∷ ls) = λ i. one l (is_blank l) refl i ∷ all ls i

-- A line feed

pub nexts : (g : Grid) → Next g (fresh_at 4 g.separator)
unfolding rows_left rows_after marks_on
nexts g = record { rows = λ say k ended rest. body_rows say k g.separator ended (lines_by g.separator rest) }

-- THE LINE ENDS: what it is, and the rows behind it
pub feed : (say : List ℕ → List ℕ) (k : ℕ) (g : Grid) (ended rest : List ℕ)
    → rows_left say k g ended (10 ∷ rest) ≡ line_then k (head_left g []) (blank_left g []) (row_left say g ended []) (rows_after say g rest)
unfolding rows_left rows_after
feed say k g ended rest = rw (mark_stops g.stage 10 rest (mark_low g.stage 10 (omega arith))) (ap (lines_left say k g ended) (lines_feed g.separator rest))

-- the text ends
pub ends : (say : List ℕ → List ℕ) (k : ℕ) (g : Grid) (ended : List ℕ) → rows_left say k g ended [] ≡ line_then k (head_left g []) (blank_left g []) (row_left say g ended []) []
unfolding rows_left lines_by
ends say k g ended = rw (mark_ends g.stage)
