-- What a judge keeps of the lines before judges a row as the lines do, and so it finds what is wrong with a file. Assumes nothing.
use Rattle.std.proofs.Common.{
  ◌≡◌,
  ℕ,
  suc,
  ◌+◌,
  ◌%◌,
  ◌^◌,
  ◌<◌,
  ◌≤◌,
  Bool,
  true,
  false,
  cond,
  eqb,
  List,
  [],
  ◌∷◌,
  ◌++◌,
  length,
  get_or,
  sym,
  refl,
  ap,
  ◌∙◌,
  mod-eq_of_lt,
  arith,
  length-append,
  ne_eqb,
  eqb-true,
}
use native.Mathlib.Decide.{dec_lt}
use borrow.Author.Tests.{eqb-false, lt-leb}
use Rattle.grid.specs.declared.Grid.{Grid}
use Rattle.grid.specs.Told.{rows_by}
use Rattle.grid.specs.Meaning.{Starts}
use Rattle.ramp.specs.declared.Action.{Action}
use Rattle.ramp.specs.Ramping.{most_actions, first_standard}
use Rattle.hours.specs.declared.HourLine.{HourLine}
use Rattle.hours.specs.Hours.{most_hours, as_hour_line, of_hour, last_hour, first_bad_line}
use Rattle.hours.specs.Inner.{one_if}
use Rattle.hours.proofs.Lines.{of_its_hour, last_more}
use Rattle.hours.proofs.Sound.{line_within, all_sound, sound_more, good_most}
use Rattle.faults.specs.Faults.{first_line}
use Rattle.faults.specs.Inner.{as_told}
use Rattle.faults.proofs.Head.{first_small}
use Rattle.hour_faults.specs.declared.HourWrong.{HourWrong}
use Rattle.std.specs.Prelude.{Option, Some, None}
use Rattle.hour_faults.specs.declared.judge.Judge.{Judge}
use Rattle.hour_faults.specs.HourFaults.{is_sound, found_or, rising_fault, action_fault, row_fault, hour_fault, found_from, first_hour_fault}
use Rattle.hour_faults.specs.Inner.{judge_first, filled_for, standard_for, judge_fault, judge_taking, judge_refusing, judge_of, judge_all, first_left, found_by, judge_left, found_left}
use Rattle.hour_faults.proofs.Exact.{sound_line}
use Rattle.hour_faults.proofs.Streaming.{stays}

-- the judge keeps what it needs of these lines, none of which has a fault
record Keeps (hours : ℕ) (before : List HourLine) (j : Judge) : Type 0 where
  wrong : j.wrong ≡ None
  month : j.hours ≡ hours
  sound : first_bad_line hours [] before ≡ length before
  low : last_hour before ≤ most_hours
  count : j.count ≡ length before
  last : j.last ≡ last_hour before
  filled : j.filled ≡ length (of_hour (last_hour before) before)
  first : (a : Action) → standard_for j j.filled a.standard ≡ first_standard (of_hour (last_hour before) before ++ a ∷ [])

keeps_none : (hours : ℕ) → Keeps hours [] (judge_first hours)
unfolding judge_first first_bad_line last_hour of_hour standard_for first_standard
keeps_none hours = record { wrong = refl; month = refl; sound = refl; low = omega arith; count = refl; last = refl; filled = refl; first = λ a. refl }

-- One row

-- behind a later hour it does not matter what the row's own hour has
earlier_same : (hours last n m first other : ℕ) (row : List ℕ) → get_or row 0 0 < last → row_fault hours last n first row ≡ row_fault hours last m other row
unfolding row_fault action_fault rising_fault
earlier_same hours last n m first other row h = rw (lt-leb last (get_or row 0 0) h)

module _ (hours : ℕ) (before : List HourLine) (j : Judge) (k : Keeps hours before j) where
  module _ (hour : ℕ) (rises : last_hour before ≤ hour) where
    none_later : (hour ≡ last_hour before → ⊥) → of_hour hour before ≡ []
    none_later n = (all_sound hours before k.sound).later hour (omega (arith, rises, n))

    filled_is : filled_for j hour ≡ length (of_hour hour before)
    unfolding filled_for
    filled_is = go (eqb hour j.last) refl
      where
        go : (t : Bool) → eqb hour j.last ≡ t → cond t j.filled 0 ≡ length (of_hour hour before)
        go true e = k.filled ∙ ap (λ (h : ℕ). length (of_hour h before)) (sym (eqb-true hour j.last e ∙ k.last))
        go false e = ap (λ (l : List Action). length l) (sym (none_later (λ z. eqb-false hour j.last e (z ∙ sym k.last))))

    first_is : (a : Action) → standard_for j (filled_for j hour) a.standard ≡ first_standard (of_hour hour before ++ a ∷ [])
    unfolding filled_for standard_for first_standard
    first_is a = go (eqb hour j.last) refl
      where
        go : (t : Bool) → eqb hour j.last ≡ t → standard_for j (cond t j.filled 0) a.standard ≡ first_standard (of_hour hour before ++ a ∷ [])
        go true e = k.first a ∙ ap (λ (h : ℕ). first_standard (of_hour h before ++ a ∷ [])) (sym (eqb-true hour j.last e ∙ k.last))
        go false e = ap (λ (l : List Action). first_standard (l ++ a ∷ [])) (sym (none_later (λ z. eqb-false hour j.last e (z ∙ sym k.last))))

  fault_same : (row : List ℕ) → judge_fault j row ≡ hour_fault hours before row
  unfolding judge_fault hour_fault as_hour_line
  fault_same row = go (dec_lt (get_or row 0 0) (last_hour before))
    where
      n : ℕ
      n = filled_for j (get_or row 0 0)

      go : Dec (get_or row 0 0 < last_hour before) → judge_fault j row ≡ hour_fault hours before row
      go (yes h) =
          (λ i. row_fault (k.month i) (k.last i) (filled_for j (get_or row 0 0)) (standard_for j (filled_for j (get_or row 0 0)) (get_or row 6 0)) row)
          ∙ earlier_same hours (last_hour before) (filled_for j (get_or row 0 0)) (length (of_hour (get_or row 0 0) before)) (standard_for j (filled_for j (get_or row 0 0)) (get_or row 6 0))
          (first_standard (of_hour (get_or row 0 0) before ++ (as_hour_line row).action ∷ [])) row h
      go (no h) =
          λ i. row_fault (k.month i) (k.last i) (filled_is (get_or row 0 0) (omega (arith, h)) i) (first_is (get_or row 0 0) (omega (arith, h)) (as_hour_line row).action i) row

  module _ (few : hours ≤ most_hours) (row : List ℕ) (good : is_sound (hour_fault hours before row) ≡ true) where
    abbrev line : HourLine
    line = as_hour_line row

    same_first : (xs : List Action) (x a : Action) → first_standard (xs ++ x ∷ []) ≡ first_standard ((xs ++ x ∷ []) ++ a ∷ [])
    unfolding first_standard
    same_first [] x a = refl
    same_first (y ∷ xs) x a = refl

    keeps_more : Keeps hours (before ++ line ∷ []) (judge_taking j row)
    unfolding judge_taking as_hour_line standard_for
    keeps_more =
        let w = line_within hours before line (sound_line hours before row good) in
        let all = all_sound hours before k.sound in
        let n_is : filled_for j (get_or row 0 0) ≡ length (of_hour (get_or row 0 0) before) = filled_is (get_or row 0 0) w.rises in
        let ends : last_hour (before ++ line ∷ []) ≡ get_or row 0 0 = last_more before line in
        let its : of_hour (last_hour (before ++ line ∷ [])) (before ++ line ∷ []) ≡ of_hour (get_or row 0 0) before ++ line.action ∷ [] =
        ap (λ (h : ℕ). of_hour h (before ++ line ∷ [])) ends ∙ of_its_hour before line in
        let room : filled_for j (get_or row 0 0) + 1 ≤ most_actions = omega (arith, n_is, w.room) in
        let more : (filled_for j (get_or row 0 0) + 1) % 2 ^ 64 ≡ filled_for j (get_or row 0 0) + 1 = mod-eq_of_lt (omega (arith, room)) in
        let many : j.count + 1 < 2 ^ 64 = omega (arith, k.count, all.few, good_most (of_hour (last_hour before) before) (all.good (last_hour before)), k.low) in
        let lines : length (before ++ line ∷ []) ≡ length before + 1 = length-append before (line ∷ []) in
        let acts : length (of_hour (get_or row 0 0) before ++ line.action ∷ []) ≡ length (of_hour (get_or row 0 0) before) + 1 =
        length-append (of_hour (get_or row 0 0) before) (line.action ∷ []) in
        record {
          wrong = refl;
          month = k.month;
          sound = sound_more hours before line k.sound (sound_line hours before row good);
          low = omega (arith, ends, w.hour, few);
          count = mod-eq_of_lt many ∙ omega (arith, k.count, lines);
          last = sym ends;
          filled = more ∙ (let e : filled_for j (get_or row 0 0) + 1 ≡ length (of_hour (get_or row 0 0) before ++ line.action ∷ []) = omega (arith, n_is, acts) in e)
              ∙ ap (λ (l : List Action). length l) (sym its);
          first = λ a. rw (ne_eqb ((filled_for j (get_or row 0 0) + 1) % 2 ^ 64) 0 (λ z. omega (arith, z, more)))
              (first_is (get_or row 0 0) w.rises line.action ∙ same_first (of_hour (get_or row 0 0) before) line.action a
              ∙ ap (λ (l : List Action). first_standard (l ++ a ∷ [])) (sym its));
        }

-- Rows

module _ (hours : ℕ) (few : hours ≤ most_hours) (first : ℕ) (low : first ≤ 2) where
  found_here : (before : List HourLine) (j : Judge) → Keeps hours before j → (w : HourWrong) → found_by first (judge_refusing j w) ≡ Some (record { line = first + length before; wrong = w })
  unfolding found_by judge_refusing
  found_here before j k w =
      let all = all_sound hours before k.sound in
      let small : first + j.count < 2 ^ 64 = omega (arith, k.count, all.few, good_most (of_hour (last_hour before) before) (all.good (last_hour before)), k.low, low) in
      λ i. Some (record { line = (mod-eq_of_lt small ∙ ap (λ (n : ℕ). first + n) k.count) i; wrong = w })

  found_same : (rows : List (List ℕ)) (before : List HourLine) (j : Judge) → Keeps hours before j → found_by first (judge_all j rows) ≡ found_from hours (first + length before) before rows
  unfolding found_by judge_all found_from judge_of judge_refusing
  found_same [] before j k = rw k.wrong
  found_same (row ∷ rows) before j k = go (hour_fault hours before row) refl (found_same rows (before ++ as_hour_line row ∷ []))
    where
      same : judge_fault j row ≡ hour_fault hours before row
      same = fault_same hours before j k row

      still : is_sound j.wrong ≡ true
      still = ap is_sound k.wrong

      go : (w : Option HourWrong) → hour_fault hours before row ≡ w
          → ((i : Judge) → Keeps hours (before ++ as_hour_line row ∷ []) i
          → found_by first (judge_all i rows) ≡ found_from hours (first + length (before ++ as_hour_line row ∷ [])) (before ++ as_hour_line row ∷ []) rows)
          → found_by first (judge_all (judge_of j row) rows)
          ≡ found_or (first + length before) w (found_from hours (suc (first + length before)) (before ++ as_hour_line row ∷ []) rows)
      go None e more =
          let one : judge_of j row ≡ judge_taking j row = rw (still, same ∙ e) in
          let next : first + length (before ++ as_hour_line row ∷ []) ≡ suc (first + length before) = omega (arith, length-append before (as_hour_line row ∷ [])) in
          ap (λ (i : Judge). found_by first (judge_all i rows)) one ∙ more (judge_taking j row) (keeps_more hours before j k few row (ap is_sound e))
          ∙ ap (λ (n : ℕ). found_from hours n (before ++ as_hour_line row ∷ []) rows) next
      go (Some w) e more =
          let one : judge_of j row ≡ judge_refusing j w = rw (still, same ∙ e) in
          ap (λ (i : Judge). found_by first (judge_all i rows)) one ∙ ap (λ (i : Judge). found_by first i) (stays rows (judge_refusing j w) refl) ∙ found_here before j k w

-- THE FINDER BEFORE ANY BYTE would find what is wrong with the text
pub found_start : (hours : ℕ) → hours ≤ most_hours → (grid : Grid) → Starts grid → (ended : List ℕ) (j : Judge) → j ≡ judge_first hours → (rest : List ℕ)
    → found_left (record { grid = grid; ended = ended; blank = false; first = None; judge = j }) rest ≡ first_hour_fault hours rest
unfolding found_left judge_left first_left first_hour_fault one_if
found_start hours few grid s ended j e rest =
    (λ i. found_by (first_line rest) (judge_all (e i) (s.rows as_told ended rest i)))
    ∙ found_same hours few (first_line rest) (first_small rest) (rows_by as_told rest) [] (judge_first hours) (keeps_none hours)
    ∙ ap (λ (n : ℕ). found_from hours n [] (rows_by as_told rest)) (let z : first_line rest + 0 ≡ first_line rest = omega arith in z)
