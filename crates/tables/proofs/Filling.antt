-- Outputs put into a lent list one by one are those of the text. Assumes nothing.
use mathlib.Core.Path.{◌≡◌, refl, ap, sym, ◌∙◌}
use mathlib.Core.Bool.{Bool, true, false, cond, ◌&&◌}
use mathlib.Core.List.{List, [], ◌∷◌, ◌++◌, map}
use Prim.Native.Nat.{ℕ, zero, suc, min, ◌+◌, ◌≤◌, ◌<◌}
use native.Mathlib.Nat.{zero-add}
use native.Mathlib.Numerals.{add-one}
use native.Mathlib.Omega.{arith}
use lib.Dec.{leb}
use lib.ListN.{length, get_or, take, drop, set, replicate, length-append, length-map, drop_of_length-le}
use lib.Seq.{append_snoc}
use borrow.Author.Tests.{lt-ltb, le-ltb, leb-false}
use Rattle.row.specs.Numbers.{ceiling}
use Rattle.row.specs.Meaning.{most_columns}
use Rattle.row.proofs.Left.{next_byte}
use Rattle.grid.specs.declared.Grid.{Grid}
use Rattle.grid.specs.declared.Step.{Step}
use Rattle.grid.specs.Grid.{rows_of}
use Rattle.grid.specs.Meaning.{row_by, head_left, blank_left, row_left, cell_told, all_told, blanks_then, line_then, rows_left, rows_after, StepFrom, Starts, Next}
use Rattle.grid.proofs.Rows.{blanks_none, numbers_rows, feed, ends}
use Rattle.grid.proofs.Ends.{cells_here, row_here, row_not}
use Rattle.tables.specs.declared.series.Place.{Place}
use Rattle.tables.specs.Series.{series_columns, no_output, output_of, series_of, filled_with, Filled}
use Rattle.tables.specs.Meaning.{output_in, fill_from, PutLine}

-- One output

pub put_one : (out : List ℕ) (n v : ℕ) (ns : List ℕ) → n < length out → v ≡ output_of ns → (rows : List (List ℕ))
    → fill_from (set out n v) (n + 1) rows ≡ fill_from out n (ns ∷ rows)
put_one out n v ns h e rows = rw (lt-ltb n (length out) h, e)

full : (out : List ℕ) (n : ℕ) → length out ≤ n → (rows : List (List ℕ)) → fill_from out n rows ≡ record { count = n; values = out }
full out n h [] = refl
full out n h (ns ∷ rows) = rw (le-ltb n (length out) h)

pub put_none : (out : List ℕ) (n : ℕ) (ns : List ℕ) → length out ≤ n → (rows : List (List ℕ)) → fill_from out n rows ≡ fill_from out n (ns ∷ rows)
put_none out n ns h rows = full out n h rows ∙ sym (full out n h (ns ∷ rows))

-- All of them

take_none : (n : ℕ) → take {A = ℕ} n [] ≡ []
take_none zero = refl
take_none (suc n) = refl

set_next : (done rest : List ℕ) (x v : ℕ) → set (done ++ x ∷ rest) (length done) v ≡ (done ++ v ∷ []) ++ rest
set_next [] rest x v = refl
set_next (d ∷ done) rest x v = ap (λ (l : List ℕ). d ∷ l) (set_next done rest x v)

-- `done` stands already, and `rest` is free
fill_rest : (rows : List (List ℕ)) (done rest : List ℕ) → fill_from (done ++ rest) (length done) rows
    ≡ record {
      count = length done + min (length rows) (length rest);
      values = done ++ (take (length rest) (map output_of rows) ++ drop (length rows) rest);
    }
fill_rest [] done rest =
    let c : length done ≡ length done + min 0 (length rest) = omega arith in
    λ i. record { count = c i; values = done ++ (sym (take_none (length rest)) i ++ rest) }
fill_rest (row ∷ rows) done [] =
    let c : length done ≡ length done + min (suc (length rows)) 0 = omega arith in
    full (done ++ []) (length done) (omega (arith, length-append done [])) (row ∷ rows) ∙ (λ i. record { count = c i; values = done ++ [] })
fill_rest (row ∷ rows) done (x ∷ rest) =
    let v = output_of row in
    let room : length done < length (done ++ x ∷ rest) = omega (arith, length-append done (x ∷ rest)) in
    let n : length done + 1 ≡ length (done ++ v ∷ []) = omega (arith, length-append done (v ∷ [])) in
    let c : length (done ++ v ∷ []) + min (length rows) (length rest) ≡ length done + min (suc (length rows)) (suc (length rest)) = omega arith in
    sym (put_one (done ++ x ∷ rest) (length done) v row room refl rows)
    ∙ (λ i. fill_from (set_next done rest x v i) (n i) rows)
    ∙ fill_rest rows (done ++ v ∷ []) rest
    ∙ (λ i. record { count = c i; values = append_snoc done v (take (length rest) (map output_of rows) ++ drop (length rows) rest) i })

-- the outputs of rows, put in from the first place on
filled : (out : List ℕ) (rows : List (List ℕ)) → fill_from out 0 rows ≡ filled_with out (map output_of rows)
unfolding filled_with
filled out rows =
    let n : length rows ≡ length (map output_of rows) = simp length-map in
    fill_rest rows [] out
    ∙ (λ i. record { count = (zero-add (min (length rows) (length out)) ∙ ap (λ (k : ℕ). min k (length out)) n) i; values = take (length out) (map output_of rows) ++ drop (n i) out })

-- A line that ends

told_output : (t : ℕ) → output_of (cond (leb t ceiling && true) (t ∷ []) []) ≡ min t no_output
unfolding output_of
told_output t = go (leb t ceiling) refl
  where
    go : (u : Bool) → leb t ceiling ≡ u → output_of (cond (u && true) (t ∷ []) []) ≡ min t no_output
    go true e = refl
    go false e = omega (arith, leb-false t ceiling e)

module _ (grid : Grid) (ended : List ℕ) (room : most_columns ≤ length ended) where
  -- of one cell
  one : grid.at ≡ 0 → output_in grid ended ≡ min (cell_told grid.cell) no_output
  one at =
      let t = cell_told grid.cell in
      let here : cells_here grid ended room ≡ t ∷ [] = ap (λ (n : ℕ). take n ended ++ t ∷ []) at in
      ap output_of (row_here grid ended room 1 (omega arith) (omega arith)) ∙ ap (λ (ns : List ℕ). output_of (cond (all_told ns) ns [])) here ∙ told_output t

  pub output_here : (n x : ℕ) → grid.at ≡ 0 → n ≡ cell_told grid.cell → x ≡ min n no_output → x ≡ output_in grid ended
  output_here n x at e f = f ∙ sym (one at ∙ ap (λ (t : ℕ). min t no_output) (sym e))

  -- of more
  pub output_none : (grid.at ≡ 0 → ⊥) → no_output ≡ output_in grid ended
  unfolding output_of
  output_none ne = sym (ap output_of (row_not grid ended room 1 (λ e. ne (omega arith)) (omega arith)))

module _ (grid : Grid) (out : List ℕ) (place : Place) where
  pub by_heading : head_left grid [] ≡ true → PutLine grid out place out place
  unfolding line_then
  by_heading h = record { few = omega arith; rows = λ ended rows room. rw h }

  pub by_blank : head_left grid [] ≡ false → blank_left grid [] ≡ true → PutLine grid out place out (record { next = place.next; blanks = place.blanks + 1 })
  unfolding line_then
  by_blank h b = record { few = omega arith; rows = λ ended rows room. rw (h, b, add-one) }

  pub by_line : (between after : List ℕ) (x n m : ℕ) → head_left grid [] ≡ false → blank_left grid [] ≡ false
      → ((rows : List (List ℕ)) → fill_from between n rows ≡ fill_from out place.next (replicate place.blanks [] ++ rows))
      → ((ended : List ℕ) → most_columns ≤ length ended → x ≡ output_in grid ended)
      → ((row : List ℕ) (rows : List (List ℕ)) → x ≡ output_of row → fill_from after m rows ≡ fill_from between n (row ∷ rows))
      → PutLine grid out place after (record { next = m; blanks = 0 })
  unfolding line_then
  by_line between after x n m h b held is put =
      record {
        few = omega arith;
        rows = λ ended rows room.
            let row = row_left (row_by series_columns) grid ended [] in
            ap (fill_from after m) (blanks_none rows) ∙ put row rows (is ended room) ∙ held (row ∷ rows) ∙ sym (rw (h, b));
      }

-- A byte of the text

-- what is left of it
abbrev pub place_left : List ℕ → Place → Grid → List ℕ → List ℕ → Filled
place_left out place grid ended rest = fill_from out place.next (rows_left (row_by series_columns) place.blanks grid ended rest)

module _ (out : List ℕ) (place : Place) (grid : Grid) (ended : List ℕ) (room : most_columns ≤ length ended) (text : List ℕ) (i : ℕ) where
  -- it ends its line
  pub series_line : (after : List ℕ) (r : Place) (n : Grid) → i < length text → get_or text i 0 ≡ 10 → Next grid n → PutLine grid out place after r
      → place_left after r n ended (drop (i + 1) text) ≡ place_left out place grid ended (drop i text)
  series_line after r n more e next f =
      let rest = drop (i + 1) text in
      let byte : 10 ∷ rest ≡ drop i text = sym (next_byte text i more ∙ ap (λ (b : ℕ). b ∷ rest) e) in
      ap (fill_from after r.next) (next.rows (row_by series_columns) r.blanks ended rest)
      ∙ f.rows ended (rows_after (row_by series_columns) grid rest) room
      ∙ ap (fill_from out place.next) (sym (feed (row_by series_columns) place.blanks grid ended rest) ∙ ap (rows_left (row_by series_columns) place.blanks grid ended) byte)

  -- it is another one
  pub series_step : (s : Step) (after : List ℕ) → StepFrom text i grid ended s after → place_left out place s.grid after (drop s.end text) ≡ place_left out place grid ended (drop i text)
  series_step s after f =
      ap (fill_from out place.next) (f.rows (row_by series_columns) place.blanks (drop s.end text) ∙ ap (rows_left (row_by series_columns) place.blanks grid ended) (sym f.stands))

  -- the text ends
  pub series_end : (after : List ℕ) (r : Place) → length text ≤ i → PutLine grid out place after r
      → ◌≡◌ {A = Filled} (record { count = r.next; values = after }) (place_left out place grid ended (drop i text))
  unfolding blanks_then
  series_end after r h f =
      f.rows ended [] room
      ∙ ap (fill_from out place.next) (sym (ends (row_by series_columns) place.blanks grid ended) ∙ ap (rows_left (row_by series_columns) place.blanks grid ended) (sym (drop_of_length-le text h)))

-- the start of the text
pub series_start : (out : List ℕ) (grid : Grid) (ended text : List ℕ) → Starts grid → place_left out (record { next = 0; blanks = 0 }) grid ended text ≡ filled_with out (series_of text)
unfolding series_of
series_start out grid ended text f = ap (fill_from out 0) (f.rows (row_by series_columns) ended text ∙ numbers_rows series_columns text (omega arith)) ∙ filled out (rows_of series_columns text)

-- Blank lines that were held back

module _ (out : List ℕ) (n : ℕ) (rows : List (List ℕ)) where
  -- the same by another count of them
  pub so_many : (k m : ℕ) → k ≡ m → fill_from out n (replicate k [] ++ rows) ≡ fill_from out n (replicate m [] ++ rows)
  so_many k m e = ap (λ (j : ℕ). fill_from out n (replicate j [] ++ rows)) e

  pub one_blank : (after : List ℕ) (at left more : ℕ) → suc left ≡ more
      → ((row : List ℕ) (rows : List (List ℕ)) → no_output ≡ output_of row → fill_from after at rows ≡ fill_from out n (row ∷ rows))
      → fill_from after at (replicate left [] ++ rows) ≡ fill_from out n (replicate more [] ++ rows)
  unfolding output_of
  one_blank after at left more e put = put [] (replicate left [] ++ rows) refl ∙ so_many (suc left) more e
