-- Room that is filled from the front, one run after the other. Assumes nothing.
use mathlib.Core.Path.{◌≡◌, refl, sym, ◌∙◌, ap}
use mathlib.Core.List.{List, [], ◌∷◌, ◌++◌, append-nil, append_assoc}
use Prim.Native.Nat.{ℕ, suc, ◌+◌, ◌-◌, ◌≤◌, ◌<◌}
use native.Mathlib.Numerals.{add-one}
use native.Mathlib.Omega.{arith}
use lib.ListN.{length, take, drop, set, replicate, length-append, length-replicate, length-set, take-append-drop}
use lib.Seq.{length-take-le, take-suc-set, drop-set-lt, drop-drop}
use Rattle.day_runs.specs.declared.runs.DayRun.{DayRun}
use Rattle.day_runs.specs.DayRuns.{blank_run, most_runs, filled_up}

-- so many runs stand at the front, and with those that are left they are all; behind them it is blank
pub record Filled (all list : List DayRun) (count : ℕ) (left : List DayRun) : Type 0 where
  pub front : take count list ++ left ≡ all
  pub back : drop count list ≡ replicate (most_runs - count) blank_run
  pub room : length list ≡ most_runs
  pub fits : count ≤ most_runs

pub filled_none : (all : List DayRun) → Filled all (filled_up []) 0 all
unfolding filled_up
filled_none all = record { front = refl; back = refl; room = length-replicate {A = DayRun} most_runs blank_run; fits = omega arith }

module _ (all list left : List DayRun) (count : ℕ) (few : length all ≤ most_runs) where
  -- where one is left, there is room for it
  pub filled_room : (r : DayRun) → Filled all list count (r ∷ left) → count < most_runs
  filled_room r f = omega (arith, ap length f.front, length-append (take count list) (r ∷ left), length-take-le count list (omega (arith, f.room, f.fits)))

  pub filled_next : (r : DayRun) → Filled all list count (r ∷ left) → Filled all (set list count r) (count + 1) left
  filled_next r f =
      let l : count < most_runs = filled_room r f in
      let h : count < length list = omega (arith, f.room) in
      let e : most_runs - count ≡ suc (most_runs - (count + 1)) = omega arith in
      let b : drop count list ≡ replicate (suc (most_runs - (count + 1))) blank_run = f.back ∙ ap (λ (n : ℕ). replicate n blank_run) e in
      record {
        front = rw (add-one count, take-suc-set list count r h) (append_assoc (take count list) (r ∷ []) left ∙ f.front);
        back = drop-set-lt (count + 1) list count r (omega arith) ∙ sym (drop-drop 1 count list) ∙ ap (drop 1) b;
        room = length-set list count r ∙ f.room;
        fits = omega arith;
      }

  -- where none is left, they are all
  pub filled_done : Filled all list count [] → (count ≡ length all) × (list ≡ filled_up all)
  unfolding filled_up
  filled_done f =
      let t : take count list ≡ all = sym (append-nil (take count list)) ∙ f.front in
      let n : count ≡ length all = sym (length-take-le count list (omega (arith, f.room, f.fits))) ∙ ap length t in
      (n, sym (take-append-drop count list) ∙ rw (t, f.back, n) refl)
