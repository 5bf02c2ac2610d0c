-- The first of a series' faults is at the value that scoring refuses with 11, and there is none exactly where every value is within its limit. Assumes nothing.
use Rattle.std.proofs.Common.{
  ◌≡◌,
  ℕ,
  zero,
  suc,
  ◌+◌,
  ◌<◌,
  ◌≤◌,
  min,
  Bool,
  true,
  false,
  cond,
  ◌&&◌,
  ltb,
  leb,
  List,
  [],
  ◌∷◌,
  map,
  length,
  get_or,
  take,
  sym,
  refl,
  ap,
  ◌∙◌,
  arith,
  le-ltb,
  lt-ltb,
  ne_eqb,
  le-leb,
  leb-false,
  leb-true,
}
use native.Mathlib.Decide.{dec_lt}
use lib.Dec.{leb-zero}
use borrow.Author.Tests.{lt-leb}
use Rattle.row.specs.Meaning.{most_columns}
use Rattle.grid.specs.Grid.{is_blank, cells_of, body_of}
use Rattle.grid.specs.Told.{told, row_in, rows_by}
use Rattle.grid.specs.Meaning.{row_by}
use Rattle.grid.proofs.Rows.{numbers_rows}
use Rattle.score.specs.Series.{most_output}
use Rattle.pay.specs.declared.Member.{Member}
use Rattle.score.specs.Scoring.{score_refused, scoring}
use Rattle.score.specs.Outcomes.{LineAndBook, Spans, ValuesWithin, Ready, bad_value}
use Rattle.score.proofs.Exact.{outcome_exact}
use Rattle.tables.specs.Series.{series_columns, output_of, series_of}
use Rattle.faults.specs.declared.Table.TheVariants.{Series}
use Rattle.std.specs.Prelude.{Option, Some, None}
use Rattle.faults.specs.declared.Wrong.{Wrong}
use Rattle.faults.specs.declared.Found.{Found}
use Rattle.faults.specs.Faults.{column_fault, is_sound, columns_of, cells_fault, line_fault, number_of, adding, faults_from, first_line, table_faults}

-- the output that a row is read as
abbrev output_by : List ℕ → ℕ
output_by row = output_of (row_by series_columns row)

-- a cell
one_alike : (n : ℕ) → is_sound (column_fault 1 0 5000000 n) ≡ leb (output_of (cond (leb n 1000000000000 && true) (n ∷ []) [])) 5000000
unfolding column_fault output_of
one_alike n = go (dec_lt 1000000000000 n) (dec_lt 5000000 n)
  where
    go : Dec (1000000000000 < n) → Dec (5000000 < n)
        → is_sound (cond (ltb 1000000000000 n) (Some (Wrong.NoNumber 1 0 5000000)) (cond (leb 0 n && leb n 5000000) None (Some (Wrong.Outside 1 n 0 5000000))))
        ≡ leb (output_of (cond (leb n 1000000000000 && true) (n ∷ []) [])) 5000000
    go (yes h) d = rw (lt-ltb 1000000000000 n h, lt-leb n 1000000000000 h)
    go (no h) (yes k) =
        rw (le-ltb 1000000000000 n (omega arith), le-leb n 1000000000000 (omega arith), leb-zero n, lt-leb n 5000000 k, lt-leb (min n 4294967295) 5000000 (omega arith))
    go (no h) (no k) =
        rw (le-ltb 1000000000000 n (omega arith), le-leb n 1000000000000 (omega arith), leb-zero n, le-leb n 5000000 (omega arith), le-leb (min n 4294967295) 5000000 (omega arith))

out_alike : (before : ℕ) (row : List ℕ) → is_sound (line_fault Series before row) ≡ leb (output_by row) most_output
unfolding line_fault columns_of cells_fault output_of
out_alike before [] = refl
out_alike before (n ∷ []) = one_alike n
out_alike before (n ∷ m ∷ row) = rw (ne_eqb (suc (suc (length row))) 1 (omega arith), ne_eqb (suc (suc (length row))) 0 (omega arith))

-- Rows

cons_not_nil : {f : Found} {fs : List Found} → f ∷ fs ≡ [] → ⊥
cons_not_nil e = let z : ◌≡◌ {A = ℕ} 0 1 = cc in omega arith

unfoldable first_line_of : List Found → ℕ
first_line_of [] = 0
first_line_of (g ∷ gs) = g.line

abbrev outputs : List (List ℕ) → List ℕ
outputs rows = map output_by rows

-- the first value above the limit
pub record FirstAbove (values : List ℕ) (i : ℕ) : Type 0 where
  pub there : i < length values
  pub before : ValuesWithin values i
  pub above : most_output < get_or values i 0

within_more : (v : ℕ) (vs : List ℕ) (i : ℕ) → v ≤ most_output → ValuesWithin vs i → ValuesWithin (v ∷ vs) (suc i)
within_more v vs i h w zero k = h
within_more v vs i h w (suc j) k = w j (omega arith)

none_above : (line before : ℕ) (rows : List (List ℕ)) → faults_from Series line before rows ≡ [] → ValuesWithin (outputs rows) (length (outputs rows))
unfolding faults_from
none_above line before [] e = λ j k. absurd (omega arith)
none_above line before (row ∷ rows) e = go (none_above (suc line) (number_of row) rows) (line_fault Series before row) refl e
  where
    go : (faults_from Series (suc line) (number_of row) rows ≡ [] → ValuesWithin (outputs rows) (length (outputs rows))) → (w : Option Wrong) → line_fault Series before row ≡ w
        → adding line w (faults_from Series (suc line) (number_of row) rows) ≡ []
        → ValuesWithin (output_by row ∷ outputs rows) (suc (length (outputs rows)))
    go more None s k = within_more (output_by row) (outputs rows) (length (outputs rows)) (leb-true (output_by row) most_output (sym (out_alike before row) ∙ ap is_sound s)) (more k)
    go more (Some wrong) s k = absurd (cons_not_nil k)

some_above : (line before : ℕ) (rows : List (List ℕ)) (f : Found) (fs : List Found) → faults_from Series line before rows ≡ f ∷ fs
    → (i : ℕ) × (f.line ≡ line + i) × FirstAbove (outputs rows) i
unfolding faults_from first_line_of
some_above line before [] f fs e = absurd (cons_not_nil (sym e))
some_above line before (row ∷ rows) f fs e = go (some_above (suc line) (number_of row) rows f fs) (line_fault Series before row) refl e
  where
    go : (faults_from Series (suc line) (number_of row) rows ≡ f ∷ fs → (i : ℕ) × (f.line ≡ suc line + i) × FirstAbove (outputs rows) i)
        → (w : Option Wrong) → line_fault Series before row ≡ w
        → adding line w (faults_from Series (suc line) (number_of row) rows) ≡ f ∷ fs
        → (i : ℕ) × (f.line ≡ line + i) × FirstAbove (output_by row ∷ outputs rows) i
    go more None s k =
        let m = more k in
        let a = m.2 in (
          suc m.0,
          omega (arith, m.1),
          record {
            there = omega (arith, a.there);
            before = within_more (output_by row) (outputs rows) m.0 (leb-true (output_by row) most_output (sym (out_alike before row) ∙ ap is_sound s)) a.before;
            above = a.above;
          },
        )
    go more (Some wrong) s k =
        let at : f.line ≡ line = sym (ap (λ (x : List Found). first_line_of x) k) in
        (0, omega (arith, at), record { there = omega arith; before = λ j h. absurd (omega arith); above = leb-false (output_by row) most_output (sym (out_alike before row) ∙ ap is_sound s) })

outputs_are : (text : List ℕ) → series_of text ≡ outputs (rows_by (λ row. row) text)
unfolding series_of rows_by row_in
outputs_are text = ap (λ (rows : List (List ℕ)). map output_of rows) (sym (numbers_rows series_columns text (omega arith))) ∙ every (body_of text)
  where
    one : (l : List ℕ) (t : Bool) → output_of (cond t [] (row_by series_columns (take most_columns (map told (cells_of l))))) ≡ output_by (cond t [] (take most_columns (map told (cells_of l))))
    one l true = refl
    one l false = refl

    every : (ls : List (List ℕ)) → map output_of (map (row_in (row_by series_columns)) ls) ≡ outputs (map (row_in (λ row. row)) ls)
    every [] = refl
    every (l ∷ ls) = λ i. one l (is_blank l) i ∷ every ls i

-- a series without a fault is within its limit, value for value
pub none_over : (text : List ℕ) → table_faults Series text ≡ [] → ValuesWithin (series_of text) (length (series_of text))
unfolding table_faults
none_over text e = rw (outputs_are text) (none_above (first_line text) 0 (rows_by (λ row. row) text) e)

-- THE FIRST FAULT IS WHERE SCORING REFUSES: at the first value above the limit
pub first_over : (text : List ℕ) (f : Found) (fs : List Found) → table_faults Series text ≡ f ∷ fs → (i : ℕ) × (f.line ≡ first_line text + i) × FirstAbove (series_of text) i
unfolding table_faults
first_over text f fs e = rw (outputs_are text) (some_above (first_line text) 0 (rows_by (λ row. row) text) f fs e)

-- THE FIRST FAULT OF A SERIES AND ITS SCORE: of a series as long as the month, scoring refuses with 11 the value of the very line that is told first.
pub first_scored : (m : Member) (b text : List ℕ) → LineAndBook m b → Spans b (series_of text) → (f : Found) (fs : List Found) → table_faults Series text ≡ f ∷ fs
    → (i : ℕ) × (f.line ≡ first_line text + i) × (score_refused 11 i ≡ scoring m b (series_of text))
first_scored m b text front spans f fs e =
    let o = first_over text f fs e in
    let a = o.2 in
    (o.0, o.1, (outcome_exact m b (series_of text) (score_refused 11 o.0)).1 (bad_value o.0 refl front spans a.there a.before a.above))

-- Where none is told, line, book and series are good: nothing of it is refused with 11.
pub none_scored : (m : Member) (b text : List ℕ) → LineAndBook m b → Spans b (series_of text) → table_faults Series text ≡ [] → Ready m b (series_of text)
none_scored m b text front spans e = record { front = front; spans = spans; within = none_over text e }
