-- What is wrong with a line of so many cells, and what it does to the judge. Assumes nothing.
use Rattle.std.proofs.Common.{◌≡◌, ℕ, ◌+◌, ◌%◌, ◌^◌, ◌≤◌, Bool, true, false, cond, ◌&&◌, ltb, leb, List, [], length, get_or, sym, refl, ap, ◌∙◌, arith}
use Rattle.std.proofs.Common.{eq-eqb, ne_eqb, leb-true}
use native.Mathlib.Decide.{ℕ_discrete}
use Rattle.le.proofs.Tests.{holds_or_fails}
use Rattle.row.specs.Numbers.{ceiling}
use Rattle.ramp.specs.Ramping.{most_ramp_rate}
use Rattle.std.specs.Prelude.{Option, Some, None}
use Rattle.hour_faults.specs.declared.HourWrong.{HourWrong}
use Rattle.hour_faults.specs.declared.HourWrong.TheVariants.{Blank, Columns}
use Rattle.hour_faults.specs.declared.judge.Judge.{Judge}
use Rattle.hour_faults.specs.HourFaults.{is_sound, or_else, column_fault, month_fault, cells_fault, action_fault, row_fault}
use Rattle.hour_faults.specs.Inner.{filled_for, standard_for, judge_fault, judge_taking, judge_refusing, judge_of}

-- Two faults

pub or_is : {x y a b : Option HourWrong} → x ≡ a → y ≡ b → or_else x y ≡ or_else a b
or_is e f = λ i. or_else (e i) (f i)

pub or_split : (x y : Option HourWrong) → is_sound (or_else x y) ≡ true → (is_sound x ≡ true) × (is_sound y ≡ true)
or_split None y h = (refl, h)
or_split (Some wrong) y h = absurd (holds_or_fails h refl)

-- A number within limits

pub column_split : (column least most n : ℕ) → is_sound (column_fault column least most n) ≡ true → (leb least n ≡ true) × (leb n most ≡ true)
unfolding column_fault
column_split column least most n h = go (ltb ceiling n) (leb least n) refl (leb n most) refl h
  where
    go : (t u : Bool) → leb least n ≡ u → (v : Bool) → leb n most ≡ v
        → is_sound (cond t (Some (HourWrong.NoNumber column)) (cond (u && v) None (Some (HourWrong.Outside column n least most)))) ≡ true → (leb least n ≡ true) × (leb n most ≡ true)
    go true u e v f k = absurd (holds_or_fails k refl)
    go false true e true f k = (e, f)
    go false true e false f k = absurd (holds_or_fails k refl)
    go false false e v f k = absurd (holds_or_fails k refl)

-- the standard rate of cells without a fault
pub low_standard : (hours : ℕ) (cells : List ℕ) → is_sound (cells_fault hours cells) ≡ true → get_or cells 6 0 ≤ most_ramp_rate
unfolding cells_fault
low_standard hours cells h =
    let p1 = or_split (month_fault hours (get_or cells 0 0)) _ h in
    let p2 = or_split (column_fault 2 0 5000000 (get_or cells 1 0)) _ p1.1 in
    let p3 = or_split (column_fault 3 0 5000000 (get_or cells 2 0)) _ p2.1 in
    let p4 = or_split (column_fault 4 0 5000000 (get_or cells 3 0)) _ p3.1 in
    let p5 = or_split (column_fault 5 0 300 (get_or cells 4 0)) _ p4.1 in
    let p6 = or_split (column_fault 6 0 1000000 (get_or cells 5 0)) _ p5.1 in
    leb-true _ _ (column_split 7 1 1000000 (get_or cells 6 0) p6.1).1

-- A line without a fault

pub taking_is : (j : Judge) (cells : List ℕ) (n first count filled : ℕ) → n ≡ filled_for j (get_or cells 0 0) → first ≡ standard_for j n (get_or cells 6 0)
    → count ≡ (j.count + 1) % 2 ^ 64 → filled ≡ (n + 1) % 2 ^ 64
    → record { wrong = None; hours = j.hours; count = count; last = get_or cells 0 0; filled = filled; first = first } ≡ judge_taking j cells
unfolding judge_taking
taking_is j cells n first count filled a b e f =
    λ i. record {
      wrong = None;
      hours = j.hours;
      count = e i;
      last = get_or cells 0 0;
      filled = (f ∙ ap (λ (x : ℕ). (x + 1) % 2 ^ 64) a) i;
      first = (b ∙ ap (λ (x : ℕ). standard_for j x (get_or cells 6 0)) a) i;
    }

-- A line of these cells

module _ (j : Judge) (row : List ℕ) where
  pub fault_blank : length row ≡ 0 → Some Blank ≡ judge_fault j row
  unfolding judge_fault row_fault
  fault_blank e = rw (eq-eqb (length row) 0 e)

  pub fault_columns : (length row ≡ 0 → ⊥) → (length row ≡ 7 → ⊥) → Some (Columns (length row) 7) ≡ judge_fault j row
  unfolding judge_fault row_fault
  fault_columns n m = rw (ne_eqb (length row) 0 n, ne_eqb (length row) 7 m)

  pub fault_cells : length row ≡ 7 → (n first : ℕ) → n ≡ filled_for j (get_or row 0 0) → first ≡ standard_for j n (get_or row 6 0)
      → or_else (cells_fault j.hours row) (action_fault j.last n first row) ≡ judge_fault j row
  unfolding judge_fault row_fault
  fault_cells e n first a b =
      let first_is : first ≡ standard_for j (filled_for j (get_or row 0 0)) (get_or row 6 0) = b ∙ ap (λ (x : ℕ). standard_for j x (get_or row 6 0)) a in
      rw (ne_eqb (length row) 0 (λ z. omega (arith, z, e)), eq-eqb (length row) 7 e)
      (λ i. or_else (cells_fault j.hours row) (action_fault j.last (a i) (first_is i) row))

  -- a line without a fault has seven
  pub sound_seven : judge_fault j row ≡ None → length row ≡ 7
  unfolding judge_fault row_fault
  sound_seven h = go (ℕ_discrete (length row) 7)
    where
      go : Dec (length row ≡ 7) → length row ≡ 7
      go (yes e) = e
      go (no n) = blank (ℕ_discrete (length row) 0)
        where
          blank : Dec (length row ≡ 0) → length row ≡ 7
          blank (yes z) = absurd (holds_or_fails (ap is_sound h) (ap is_sound (sym (fault_blank z))))
          blank (no k) = absurd (holds_or_fails (ap is_sound h) (ap is_sound (sym (fault_columns k n))))

-- A blank line

pub spoilt_found : (j : Judge) → is_sound j.wrong ≡ false → j ≡ judge_of j []
unfolding judge_of
spoilt_found j s = rw s

pub spoilt_now : (j : Judge) → is_sound j.wrong ≡ true → judge_refusing j Blank ≡ judge_of j []
unfolding judge_of judge_fault row_fault
spoilt_now j s = rw s
