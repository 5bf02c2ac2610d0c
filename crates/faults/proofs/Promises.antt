-- The first of a register's faults is at the line that reading it refuses, and there is none exactly where it is taken. Assumes nothing.
use Rattle.std.proofs.Common.{
  ◌≡◌,
  ℕ,
  suc,
  ◌+◌,
  ◌<◌,
  ◌≤◌,
  Bool,
  true,
  false,
  cond,
  ◌&&◌,
  eqb,
  ltb,
  leb,
  List,
  [],
  ◌∷◌,
  map,
  length,
  get_or,
  take,
  sym,
  refl,
  ap,
  ◌∙◌,
  arith,
  le-ltb,
  eq-eqb,
  ne_eqb,
  leb-true,
}
use native.Mathlib.Decide.{ℕ_discrete}
use lib.Dec.{leb-zero}
use Rattle.le.proofs.Tests.{holds_or_fails, each, all}
use Rattle.row.specs.Numbers.{ceiling}
use Rattle.row.specs.Meaning.{most_columns}
use Rattle.row.specs.Judging.{first_unsound, judged}
use Rattle.row.proofs.Judging.{lowest_unsound, every_sound}
use Rattle.grid.specs.Grid.{is_blank, cells_of, body_of}
use Rattle.grid.specs.Told.{none_told, told, row_in, rows_by}
use Rattle.ceiling.specs.Ceiling.{most_limit, limit_is_sound}
use Rattle.register.specs.declared.Entry.{Entry}
use Rattle.register.specs.Register.{entry_is_sound}
use Rattle.tables.specs.Register.{register_columns, register_row, limit_told, as_entry, entries_of, register_entries, read_register}
use Rattle.tables.proofs.Entries.{bounds, within, sound_is, lawful}
use Rattle.faults.specs.declared.Table.TheVariants.{Register}
use Rattle.std.specs.Prelude.{Option, Some, None}
use Rattle.faults.specs.declared.Wrong.{Wrong}
use Rattle.faults.specs.declared.Found.{Found}
use Rattle.faults.specs.Faults.{column_fault, limit_fault, is_sound, or_else, rising_fault, entry_fault, columns_of, cells_fault, line_fault, number_of, adding, faults_from, first_line, table_faults}

-- Tests that say the same

alike : (x y : Bool) → (x ≡ true → y ≡ true) → (y ≡ true → x ≡ true) → x ≡ y
alike true y to from = sym (to refl)
alike false true to from = from refl
alike false false to from = refl

or_split : (x y : Option Wrong) → is_sound (or_else x y) ≡ true → (is_sound x ≡ true) × (is_sound y ≡ true)
or_split None y h = (refl, h)
or_split (Some wrong) y h = absurd (holds_or_fails h refl)

or_make : (x y : Option Wrong) → is_sound x ≡ true → is_sound y ≡ true → is_sound (or_else x y) ≡ true
or_make None y h k = k
or_make (Some wrong) y h k = h

column_split : (column least most n : ℕ) → is_sound (column_fault column least most n) ≡ true → (leb least n ≡ true) × (leb n most ≡ true)
unfolding column_fault
column_split column least most n h = go (ltb ceiling n) (leb least n) refl (leb n most) refl h
  where
    go : (t u : Bool) → leb least n ≡ u → (v : Bool) → leb n most ≡ v
        → is_sound (cond t (Some (Wrong.NoNumber column least most)) (cond (u && v) None (Some (Wrong.Outside column n least most)))) ≡ true → (leb least n ≡ true) × (leb n most ≡ true)
    go true u e v f k = absurd (holds_or_fails k refl)
    go false true e true f k = (e, f)
    go false true e false f k = absurd (holds_or_fails k refl)
    go false false e v f k = absurd (holds_or_fails k refl)

column_make : (column least most n : ℕ) → most ≤ ceiling → leb least n ≡ true → leb n most ≡ true → is_sound (column_fault column least most n) ≡ true
unfolding column_fault
column_make column least most n c h k = rw (le-ltb ceiling n (omega (arith, leb-true n most k)), h, k)

-- none, or a number within limits, is a sound limit
limit_alike : (n : ℕ) → is_sound (limit_fault n) ≡ limit_is_sound (limit_told n)
unfolding limit_fault limit_told limit_is_sound
limit_alike n = go (eqb n none_told)
  where
    go : (t : Bool) → is_sound (cond t None (column_fault 7 0 most_limit n))
        ≡ limit_is_sound (cond t (record { none = true; fen = record { 0 = 0 } }) (record { none = false; fen = record { 0 = n } }))
    go true = refl
    go false = alike _ _ (λ h. (column_split 7 0 most_limit n h).1) (λ h. column_make 7 0 most_limit n (omega arith) (leb-zero n) h)

-- A register line

entry_alike : (row : List ℕ) → is_sound (entry_fault row) ≡ within (as_entry row)
unfolding entry_fault as_entry
entry_alike row = alike (is_sound (entry_fault row)) (within (as_entry row)) to from
  where
    to : is_sound (entry_fault row) ≡ true → within (as_entry row) ≡ true
    to h =
        let p1 = or_split (column_fault 1 1 64 (get_or row 0 0)) _ h in
        let p2 = or_split (column_fault 2 1 8 (get_or row 1 0)) _ p1.1 in
        let p3 = or_split (column_fault 3 1 4000000 (get_or row 2 0)) _ p2.1 in
        let p4 = or_split (column_fault 4 0 2 (get_or row 3 0)) _ p3.1 in
        let p5 = or_split (column_fault 5 0 5000000 (get_or row 4 0)) _ p4.1 in
        let q1 = column_split 1 1 64 (get_or row 0 0) p1.0 in
        let q2 = column_split 2 1 8 (get_or row 1 0) p2.0 in
        let q3 = column_split 3 1 4000000 (get_or row 2 0) p3.0 in
        let q4 = column_split 4 0 2 (get_or row 3 0) p4.0 in
        let q5 = column_split 5 0 5000000 (get_or row 4 0) p5.0 in
        let p6 = or_split (column_fault 6 0 10000000 (get_or row 5 0)) _ p5.1 in
        let q6 = column_split 6 0 10000000 (get_or row 5 0) p6.0 in
        let q7 = sym (limit_alike (get_or row 6 0)) ∙ p6.1 in
        all (leb 1 (get_or row 0 0)) (bounds (as_entry row)) (q1.0, (q1.1, (q2.0, (q2.1, (q3.0, (q3.1, (q4.1, (q5.1, (q6.1, (q7, tt))))))))))

    from : within (as_entry row) ≡ true → is_sound (entry_fault row) ≡ true
    from h =
        let q = each (leb 1 (get_or row 0 0)) (bounds (as_entry row)) h in
        let q2 = q.1.1 in
        let q3 = q2.1.1 in
        let q4 = q3.1.1 in
        or_make (column_fault 1 1 64 (get_or row 0 0)) _ (column_make 1 1 64 (get_or row 0 0) (omega arith) q.0 q.1.0)
        (or_make (column_fault 2 1 8 (get_or row 1 0)) _ (column_make 2 1 8 (get_or row 1 0) (omega arith) q2.0 q2.1.0)
        (or_make (column_fault 3 1 4000000 (get_or row 2 0)) _ (column_make 3 1 4000000 (get_or row 2 0) (omega arith) q3.0 q3.1.0)
        (or_make (column_fault 4 0 2 (get_or row 3 0)) _ (column_make 4 0 2 (get_or row 3 0) (omega arith) (leb-zero (get_or row 3 0)) q4.0)
        (or_make (column_fault 5 0 5000000 (get_or row 4 0)) _ (column_make 5 0 5000000 (get_or row 4 0) (omega arith) (leb-zero (get_or row 4 0)) q4.1.0)
        (or_make (column_fault 6 0 10000000 (get_or row 5 0)) _ (column_make 6 0 10000000 (get_or row 5 0) (omega arith) (leb-zero (get_or row 5 0)) q4.1.1.0)
        (limit_alike (get_or row 6 0) ∙ q4.1.1.1.0))))))

rising_alike : (before n : ℕ) → is_sound (rising_fault before n) ≡ ltb before n
unfolding rising_fault
rising_alike before n = go (ltb before n)
  where
    go : (t : Bool) → is_sound (cond t None (Some (Wrong.NotAbove n before))) ≡ t
    go true = refl
    go false = refl

or_alike : (x y : Option Wrong) → is_sound (or_else x y) ≡ (is_sound x && is_sound y)
or_alike None y = refl
or_alike (Some wrong) y = refl

-- the entry that a row is read as
abbrev entry_by : List ℕ → Entry
entry_by row = as_entry (register_row row)

none_sound : (before : ℕ) → entry_is_sound before (as_entry []) ≡ false
unfolding as_entry
none_sound before = sound_is before (as_entry [])

line_alike : (before : ℕ) (row : List ℕ) → is_sound (line_fault Register before row) ≡ entry_is_sound before (entry_by row)
unfolding line_fault columns_of cells_fault register_row as_entry entry_is_sound
line_alike before row = go (ℕ_discrete (length row) 7)
  where
    other : (t : Bool) → is_sound (cond t (Some Wrong.Blank) (Some (Wrong.Columns (length row) 7))) ≡ false
    other true = refl
    other false = refl

    go : Dec (length row ≡ 7) → is_sound (line_fault Register before row) ≡ entry_is_sound before (entry_by row)
    go (yes l) = rw (eq-eqb (length row) 7 l, ne_eqb (length row) 0 (omega arith))
        (or_alike (entry_fault row) (rising_fault before (get_or row 0 0)) ∙ (λ i. entry_alike row i && rising_alike before (get_or row 0 0) i) ∙ sym (sound_is before (as_entry row)))
    go (no n) = rw (ne_eqb (length row) 7 n) (other (eqb (length row) 0) ∙ sym (none_sound before))

-- a sound line's number is the one that the next is held against
number_alike : (before : ℕ) (row : List ℕ) → entry_is_sound before (entry_by row) ≡ true → number_of row ≡ (entry_by row).member.number
unfolding number_of register_row as_entry
number_alike before row h = go (eqb (length row) register_columns) h
  where
    go : (t : Bool) → entry_is_sound before (as_entry (cond t row [])) ≡ true → number_of row ≡ (as_entry (cond t row [])).member.number
    go true k =
        let q = each (leb 1 (get_or row 0 0)) (bounds (as_entry row)) (two (within (as_entry row)) (sym (sound_is before (as_entry row)) ∙ k)) in
        rw (q.0, q.1.0)
      where
        two : (t : Bool) → (t && ltb before (get_or row 0 0)) ≡ true → t ≡ true
        two true k = refl
        two false k = k
    go false k = absurd (holds_or_fails k (none_sound before))

-- A register

abbrev entries_by : List (List ℕ) → List Entry
entries_by rows = map entry_by rows

abbrev bad_in : ℕ → List (List ℕ) → ℕ
bad_in before rows = first_unsound register_entries before (entries_by rows)

cons_not_nil : {f : Found} {fs : List Found} → f ∷ fs ≡ [] → ⊥
cons_not_nil e = let z : ◌≡◌ {A = ℕ} 0 1 = cc in omega arith

none_bad : (line before : ℕ) (rows : List (List ℕ)) → faults_from Register line before rows ≡ [] → length (entries_by rows) ≤ bad_in before rows
unfolding faults_from
none_bad line before [] e = omega arith
none_bad line before (row ∷ rows) e = go (none_bad (suc line) (number_of row) rows) (line_fault Register before row) refl e
  where
    go : (faults_from Register (suc line) (number_of row) rows ≡ [] → length (entries_by rows) ≤ bad_in (number_of row) rows) → (w : Option Wrong) → line_fault Register before row ≡ w
        → adding line w (faults_from Register (suc line) (number_of row) rows) ≡ []
        → suc (length (entries_by rows)) ≤ cond (entry_is_sound before (entry_by row)) (suc (bad_in (entry_by row).member.number rows)) 0
    go more None s k =
        let sound : entry_is_sound before (entry_by row) ≡ true = sym (line_alike before row) ∙ ap is_sound s in
        let h : length (entries_by rows) ≤ bad_in (entry_by row).member.number rows = rw (number_alike before row sound) at (more k) in
        rw sound (omega (arith, h))
    go more (Some wrong) s k = absurd (cons_not_nil k)

some_bad : (line before : ℕ) (rows : List (List ℕ)) (f : Found) (fs : List Found) → faults_from Register line before rows ≡ f ∷ fs
    → (bad_in before rows < length (entries_by rows)) × (f.line ≡ line + bad_in before rows)
unfolding faults_from
some_bad line before [] f fs e = absurd (cons_not_nil (sym e))
some_bad line before (row ∷ rows) f fs e = go (some_bad (suc line) (number_of row) rows f fs) (line_fault Register before row) refl e
  where
    first_line_of : List Found → ℕ
    first_line_of [] = 0
    first_line_of (g ∷ gs) = g.line

    go : (faults_from Register (suc line) (number_of row) rows ≡ f ∷ fs → (bad_in (number_of row) rows < length (entries_by rows)) × (f.line ≡ suc line + bad_in (number_of row) rows))
        → (w : Option Wrong) → line_fault Register before row ≡ w
        → adding line w (faults_from Register (suc line) (number_of row) rows) ≡ f ∷ fs
        → (cond (entry_is_sound before (entry_by row)) (suc (bad_in (entry_by row).member.number rows)) 0 < suc (length (entries_by rows)))
        × (f.line ≡ line + cond (entry_is_sound before (entry_by row)) (suc (bad_in (entry_by row).member.number rows)) 0)
    go more None s k =
        let sound : entry_is_sound before (entry_by row) ≡ true = sym (line_alike before row) ∙ ap is_sound s in
        let n = number_alike before row sound in
        let low : bad_in (entry_by row).member.number rows < length (entries_by rows) = rw n at (more k).0 in
        let at : f.line ≡ suc line + bad_in (entry_by row).member.number rows = rw n at (more k).1 in
        rw sound (omega (arith, low), omega (arith, at))
    go more (Some wrong) s k =
        let bad : entry_is_sound before (entry_by row) ≡ false = sym (line_alike before row) ∙ ap is_sound s in
        let at : f.line ≡ line = sym (ap (λ (x : List Found). first_line_of x) k) in
        rw bad (omega arith, omega (arith, at))

-- the rows of a register by what its cells say
entries_are : (text : List ℕ) → entries_of text ≡ entries_by (rows_by (λ row. row) text)
unfolding entries_of rows_by row_in register_row
entries_are text = every (body_of text)
  where
    one : (l : List ℕ) (t : Bool) → as_entry (cond t [] (register_row (take most_columns (map told (cells_of l))))) ≡ entry_by (cond t [] (take most_columns (map told (cells_of l))))
    one l true = refl
    one l false = refl

    every : (ls : List (List ℕ)) → map as_entry (map (row_in register_row) ls) ≡ entries_by (map (row_in (λ row. row)) ls)
    every [] = refl
    every (l ∷ ls) = λ i. one l (is_blank l) i ∷ every ls i

-- a register without a fault is taken
pub none_taken : (text : List ℕ) → table_faults Register text ≡ [] → (read_register text).number ≡ 0
unfolding table_faults read_register
none_taken text e =
    let rows = rows_by (λ row. row) text in
    ap (λ (es : List Entry). (judged register_entries es).number) (entries_are text)
    ∙ ap (λ r. r.number) (every_sound register_entries lawful (entries_by rows) (none_bad (first_line text) 0 rows e))

-- THE FIRST FAULT IS WHERE READING REFUSES: with 10, at the row of that line
pub first_refused_lem : (text : List ℕ) (f : Found) (fs : List Found) → table_faults Register text ≡ f ∷ fs → ((read_register text).number ≡ 10) ×
    (f.line ≡ first_line text + (read_register text).place)
unfolding table_faults read_register
first_refused_lem text f fs e =
    let rows = rows_by (λ row. row) text in
    let h = some_bad (first_line text) 0 rows f fs e in
    let r = ap (λ (es : List Entry). judged register_entries es) (entries_are text) ∙ lowest_unsound register_entries lawful (entries_by rows) h.0 in
    (ap (λ x. x.number) r, h.1 ∙ ap (λ n. first_line text + n) (sym (ap (λ x. x.place) r)))
