-- Nothing is wrong with a line exactly where it is sound behind the lines before it. Assumes nothing.
use Rattle.std.proofs.Common.{
  ◌≡◌,
  ℕ,
  zero,
  suc,
  ◌-◌,
  ◌*◌,
  ◌<◌,
  ◌≤◌,
  Bool,
  true,
  false,
  cond,
  ◌&&◌,
  eqb,
  ltb,
  leb,
  List,
  [],
  ◌∷◌,
  ◌++◌,
  length,
  get_or,
  sym,
  refl,
  ap,
  ◌∙◌,
  arith,
  ltb-true,
  le-ltb,
  lt-ltb,
  eq-eqb,
  ne_eqb,
  eqb-true,
  le-leb,
  leb-true,
}
use native.Mathlib.Decide.{ℕ_discrete}
use borrow.Author.Tests.{eqb-false}
use Rattle.le.proofs.Tests.{holds_or_fails}
use Rattle.row.specs.Numbers.{ceiling}
use Rattle.grid.specs.Meaning.{all_told, row_by}
use Rattle.ramp.specs.Ramping.{most_actions, most_over_standard, first_standard}
use Rattle.hours.specs.declared.HourLine.{HourLine}
use Rattle.hours.specs.Hours.{hour_columns, most_hours, as_hour_line, of_hour, last_hour, hour_line_is_sound}
use Rattle.hours.specs.Outcomes.{LineWithin}
use Rattle.hours.proofs.Sound.{line_within, within_line, none_bad}
use Rattle.std.specs.Prelude.{Option, Some, None}
use Rattle.hour_faults.specs.declared.HourWrong.{HourWrong}
use Rattle.hour_faults.specs.HourFaults.{
  is_sound,
  or_else,
  column_fault,
  month_fault,
  cells_fault,
  rising_fault,
  full_fault,
  standard_fault,
  fast_fault,
  move_fault,
  action_fault,
  row_fault,
  hour_fault,
}
use Rattle.hour_faults.proofs.Judging.{or_split, column_split}

or_make : (x y : Option HourWrong) → is_sound x ≡ true → is_sound y ≡ true → is_sound (or_else x y) ≡ true
or_make None y h k = k
or_make (Some wrong) y h k = h

column_make : (column least most n : ℕ) → most ≤ ceiling → least ≤ n → n ≤ most → is_sound (column_fault column least most n) ≡ true
unfolding column_fault
column_make column least most n c h k = rw (le-ltb ceiling n (omega (arith, c, k)), le-leb least n h, le-leb n most k)

-- a test that decides whether something is wrong
picked : (t : Bool) (w : HourWrong) → is_sound (cond t None (Some w)) ≡ true → t ≡ true
picked true w h = refl
picked false w h = absurd (holds_or_fails h refl)

picked_not : (t : Bool) (w : HourWrong) → is_sound (cond t (Some w) None) ≡ true → t ≡ false
picked_not false w h = refl
picked_not true w h = absurd (holds_or_fails h refl)

month_split : (hours n : ℕ) → is_sound (month_fault hours n) ≡ true → n < hours
unfolding month_fault
month_split hours n h = go (ltb ceiling n) h
  where
    go : (t : Bool) → is_sound (cond t (Some (HourWrong.NoNumber 1)) (cond (ltb n hours) None (Some (HourWrong.Outside 1 n 0 (hours - 1))))) ≡ true → n < hours
    go true k = absurd (holds_or_fails k refl)
    go false k = ltb-true n hours (picked (ltb n hours) (HourWrong.Outside 1 n 0 (hours - 1)) k)

month_make : (hours n : ℕ) → hours ≤ ceiling → n < hours → is_sound (month_fault hours n) ≡ true
unfolding month_fault
month_make hours n c h = rw (le-ltb ceiling n (omega (arith, c, h)), lt-ltb n hours h)

rising_split : (last hour : ℕ) → is_sound (rising_fault last hour) ≡ true → last ≤ hour
unfolding rising_fault
rising_split last hour h = leb-true last hour (picked (leb last hour) (HourWrong.Earlier hour last) h)

rising_make : (last hour : ℕ) → last ≤ hour → is_sound (rising_fault last hour) ≡ true
unfolding rising_fault
rising_make last hour h = rw (le-leb last hour h)

full_split : (n hour : ℕ) → is_sound (full_fault n hour) ≡ true → n < most_actions
unfolding full_fault
full_split n hour h = ltb-true n most_actions (picked (ltb n most_actions) (HourWrong.Full hour) h)

full_make : (n hour : ℕ) → n < most_actions → is_sound (full_fault n hour) ≡ true
unfolding full_fault
full_make n hour h = rw (lt-ltb n most_actions h)

standard_split : (first hour n : ℕ) → is_sound (standard_fault first hour n) ≡ true → n ≡ first
unfolding standard_fault
standard_split first hour n h = eqb-true n first (picked (eqb n first) (HourWrong.OtherStandard n hour first) h)

standard_make : (first hour n : ℕ) → n ≡ first → is_sound (standard_fault first hour n) ≡ true
unfolding standard_fault
standard_make first hour n h = rw (eq-eqb n first h)

fast_split : (real standard : ℕ) → is_sound (fast_fault real standard) ≡ true → real ≤ most_over_standard * standard
unfolding fast_fault
fast_split real standard h = leb-true real (most_over_standard * standard) (picked (leb real (most_over_standard * standard)) (HourWrong.TooFast real standard) h)

fast_make : (real standard : ℕ) → real ≤ most_over_standard * standard → is_sound (fast_fault real standard) ≡ true
unfolding fast_fault
fast_make real standard h = rw (le-leb real (most_over_standard * standard) h)

move_split : (start command : ℕ) → is_sound (move_fault start command) ≡ true → command ≡ start → ⊥
unfolding move_fault
move_split start command h = eqb-false command start (picked_not (eqb command start) (HourWrong.NoMove start) h)

move_make : (start command : ℕ) → (command ≡ start → ⊥) → is_sound (move_fault start command) ≡ true
unfolding move_fault
move_make start command h = rw (ne_eqb command start h)

-- Seven cells

module _ (hours : ℕ) (before : List HourLine) (row : List ℕ) where
  abbrev its : ℕ
  its = length (of_hour (get_or row 0 0) before)

  abbrev first_rate : ℕ
  first_rate = first_standard (of_hour (get_or row 0 0) before ++ (as_hour_line row).action ∷ [])

  both : length row ≡ 7 → hour_fault hours before row ≡ or_else (cells_fault hours row) (action_fault (last_hour before) its first_rate row)
  unfolding hour_fault row_fault
  both l = rw (ne_eqb (length row) 0 (λ z. omega (arith, z, l)), eq-eqb (length row) 7 l)

  within_of : length row ≡ 7 → is_sound (hour_fault hours before row) ≡ true → LineWithin hours before (as_hour_line row)
  unfolding cells_fault action_fault as_hour_line
  within_of l h =
      let p = or_split (cells_fault hours row) (action_fault (last_hour before) its first_rate row) (ap is_sound (sym (both l)) ∙ h) in
      let p1 = or_split (month_fault hours (get_or row 0 0)) _ p.0 in
      let p2 = or_split (column_fault 2 0 5000000 (get_or row 1 0)) _ p1.1 in
      let p3 = or_split (column_fault 3 0 5000000 (get_or row 2 0)) _ p2.1 in
      let p4 = or_split (column_fault 4 0 5000000 (get_or row 3 0)) _ p3.1 in
      let p5 = or_split (column_fault 5 0 300 (get_or row 4 0)) _ p4.1 in
      let p6 = or_split (column_fault 6 0 1000000 (get_or row 5 0)) _ p5.1 in
      let q1 = or_split (rising_fault (last_hour before) (get_or row 0 0)) _ p.1 in
      let q2 = or_split (full_fault its (get_or row 0 0)) _ q1.1 in
      let q3 = or_split (standard_fault first_rate (get_or row 0 0) (get_or row 6 0)) _ q2.1 in
      let q4 = or_split (fast_fault (get_or row 5 0) (get_or row 6 0)) _ q3.1 in
      let rate = column_split 7 1 1000000 (get_or row 6 0) p6.1 in
      let some : 1 ≤ get_or row 6 0 = leb-true 1 (get_or row 6 0) rate.0 in
      record {
        hour = month_split hours (get_or row 0 0) p1.0;
        rises = rising_split (last_hour before) (get_or row 0 0) q1.0;
        room = full_split its (get_or row 0 0) q2.0;
        action = record {
          some_rate = λ z. omega (arith, z, some);
          one_rate = standard_split first_rate (get_or row 0 0) (get_or row 6 0) q3.0;
          commanded = move_split (get_or row 1 0) (get_or row 3 0) q4.1;
          powers = (
            leb-true _ _ (column_split 2 0 5000000 (get_or row 1 0) p2.0).1,
            leb-true _ _ (column_split 3 0 5000000 (get_or row 2 0) p3.0).1,
            leb-true _ _ (column_split 4 0 5000000 (get_or row 3 0) p4.0).1,
          );
          delay = leb-true _ _ (column_split 5 0 300 (get_or row 4 0) p5.0).1;
          rates = (leb-true _ _ (column_split 6 0 1000000 (get_or row 5 0) p6.0).1, leb-true _ _ rate.1);
          real = fast_split (get_or row 5 0) (get_or row 6 0) q4.0;
        };
      }

  sound_of : hours ≤ most_hours → length row ≡ 7 → LineWithin hours before (as_hour_line row) → is_sound (hour_fault hours before row) ≡ true
  unfolding cells_fault action_fault as_hour_line
  sound_of few l w =
      let a = w.action in
      ap is_sound (both l)
      ∙ or_make (cells_fault hours row) (action_fault (last_hour before) its first_rate row)
      (or_make (month_fault hours (get_or row 0 0)) _ (month_make hours (get_or row 0 0) (omega (arith, few)) w.hour)
      (or_make (column_fault 2 0 5000000 (get_or row 1 0)) _ (column_make 2 0 5000000 (get_or row 1 0) (omega arith) (omega arith) a.powers.0)
      (or_make (column_fault 3 0 5000000 (get_or row 2 0)) _ (column_make 3 0 5000000 (get_or row 2 0) (omega arith) (omega arith) a.powers.1)
      (or_make (column_fault 4 0 5000000 (get_or row 3 0)) _ (column_make 4 0 5000000 (get_or row 3 0) (omega arith) (omega arith) a.powers.2)
      (or_make (column_fault 5 0 300 (get_or row 4 0)) _ (column_make 5 0 300 (get_or row 4 0) (omega arith) (omega arith) a.delay)
      (or_make (column_fault 6 0 1000000 (get_or row 5 0)) _ (column_make 6 0 1000000 (get_or row 5 0) (omega arith) (omega arith) a.rates.0)
      (column_make 7 1 1000000 (get_or row 6 0) (omega arith) (some (get_or row 6 0) a.some_rate) a.rates.1)))))))
      (or_make (rising_fault (last_hour before) (get_or row 0 0)) _ (rising_make (last_hour before) (get_or row 0 0) w.rises)
      (or_make (full_fault its (get_or row 0 0)) _ (full_make its (get_or row 0 0) w.room)
      (or_make (standard_fault first_rate (get_or row 0 0) (get_or row 6 0)) _ (standard_make first_rate (get_or row 0 0) (get_or row 6 0) a.one_rate)
      (or_make (fast_fault (get_or row 5 0) (get_or row 6 0)) _ (fast_make (get_or row 5 0) (get_or row 6 0) a.real) (move_make (get_or row 1 0) (get_or row 3 0) a.commanded)))))
    where
      some : (n : ℕ) → (n ≡ 0 → ⊥) → 1 ≤ n
      some n z = omega (arith, z)

  -- a line without a fault has seven cells
  pub seven : is_sound (hour_fault hours before row) ≡ true → length row ≡ 7
  unfolding hour_fault row_fault
  seven h = go (ℕ_discrete (length row) 7)
    where
      other : (t : Bool) → is_sound (cond t (Some HourWrong.Blank) (Some (HourWrong.Columns (length row) 7))) ≡ false
      other true = refl
      other false = refl

      go : Dec (length row ≡ 7) → length row ≡ 7
      go (yes l) = l
      go (no n) = absurd (holds_or_fails h (rw (ne_eqb (length row) 7 n) (other (eqb (length row) 0))))

  pub sound_line : is_sound (hour_fault hours before row) ≡ true → hour_line_is_sound hours before (as_hour_line row) ≡ true
  sound_line h = within_line hours before (as_hour_line row) (within_of (seven h) h)

  pub line_sound : hours ≤ most_hours → length row ≡ 7 → hour_line_is_sound hours before (as_hour_line row) ≡ true → is_sound (hour_fault hours before row) ≡ true
  line_sound few l h = sound_of few l (line_within hours before (as_hour_line row) h)

-- The line that is read

all_told_lem : (row : List ℕ) → ((i : ℕ) → i < length row → get_or row i 0 ≤ ceiling) → all_told row ≡ true
all_told_lem [] h = refl
all_told_lem (n ∷ ns) h = rw (le-leb n ceiling (h 0 (omega arith))) (all_told_lem ns (λ i k. h (suc i) (omega (arith, k))))

alike : (x y : Bool) → (x ≡ true → y ≡ true) → (y ≡ true → x ≡ true) → x ≡ y
alike true y to from = sym (to refl)
alike false true to from = from refl
alike false false to from = refl

module _ (hours : ℕ) (few : hours ≤ most_hours) (before : List HourLine) (row : List ℕ) where
  low : LineWithin hours before (as_hour_line row) → (i : ℕ) → i < 7 → get_or row i 0 ≤ ceiling
  unfolding as_hour_line
  low w zero h = omega (arith, few, w.hour)
  low w (suc zero) h = omega (arith, w.action.powers.0)
  low w (suc (suc zero)) h = omega (arith, w.action.powers.1)
  low w (suc (suc (suc zero))) h = omega (arith, w.action.powers.2)
  low w (suc (suc (suc (suc zero)))) h = omega (arith, w.action.delay)
  low w (suc (suc (suc (suc (suc zero))))) h = omega (arith, w.action.rates.0)
  low w (suc (suc (suc (suc (suc (suc zero)))))) h = omega (arith, w.action.rates.1)
  low w (suc (suc (suc (suc (suc (suc (suc i))))))) h = absurd (omega (arith, h))

  -- cells without a fault are the numbers of their line
  pub row_same : is_sound (hour_fault hours before row) ≡ true → row_by hour_columns row ≡ row
  row_same h =
      let l = seven hours before row h in
      let w = within_of hours before row l h in
      rw (eq-eqb (length row) 7 l, all_told_lem row (λ i k. low w i (omega (arith, k, l))))

  -- nothing is wrong exactly where the line that is read is sound
  pub row_alike : is_sound (hour_fault hours before row) ≡ hour_line_is_sound hours before (as_hour_line (row_by hour_columns row))
  row_alike = alike (is_sound (hour_fault hours before row)) (hour_line_is_sound hours before (as_hour_line (row_by hour_columns row))) to (from (eqb (length row) 7) refl (all_told row))
    where
      to : is_sound (hour_fault hours before row) ≡ true → hour_line_is_sound hours before (as_hour_line (row_by hour_columns row)) ≡ true
      to h = ap (λ (r : List ℕ). hour_line_is_sound hours before (as_hour_line r)) (row_same h) ∙ sound_line hours before row h

      from : (t : Bool) → eqb (length row) 7 ≡ t → (u : Bool) → hour_line_is_sound hours before (as_hour_line (cond (t && u) row [])) ≡ true → is_sound (hour_fault hours before row) ≡ true
      from true e true h = line_sound hours before row few (eqb-true (length row) 7 e) h
      from true e false h = absurd (holds_or_fails h (none_bad hours before))
      from false e u h = absurd (holds_or_fails h (none_bad hours before))
