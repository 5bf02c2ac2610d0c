-- A minute by the window that covers it, and how a pass over the windows finds it. Assumes nothing.
use mathlib.Core.Path.{◌≡◌, refl, sym, ◌∙◌}
use mathlib.Core.Bool.{Bool, true, false, cond, not, ◌&&◌, ◌||◌}
use mathlib.Core.List.{List, [], ◌∷◌}
use Prim.Native.Nat.{ℕ, zero, suc, ◌+◌, ◌-◌, ◌≤◌, ◌<◌}
use native.Mathlib.Numerals.{add-one}
use native.Mathlib.Omega.{arith}
use lib.Dec.{eqb}
use lib.ListN.{get_or, length, drop, drop_of_length-le, length-map}
use lib.Seq.{drop-cons}
use borrow.Author.Tests.{eq-eqb, ne_eqb, eqb-true, lt-ltb, le-ltb, ltb-false}
use Rattle.std.specs.Prelude.{None, Some}
use Rattle.le.proofs.Tests.{each}
use Rattle.call.specs.declared.Call.{Call}
use Rattle.book.specs.Book.{record_at}
use Rattle.pay.specs.declared.Member.{Member}
use Rattle.reckon.specs.Reckoning.{covers, output_at, window_minute, minute_at}
use Rattle.reckon.specs.Inner.{calls_at, first_over}
use Rattle.day_runs.specs.DayRuns.{covered_by, is_covered, call_over, goes_on, run_begins, run_length}

-- A minute's pay by its window's index and its output

unfoldable pay_by : Member → List Call → ℕ → ℕ → ℕ
pay_by m [] k p = 0
pay_by m (x ∷ windows) zero p = window_minute m x p
pay_by m (x ∷ windows) (suc k) p = pay_by m windows k p

minute_by : (m : Member) (series : List ℕ) (windows : List Call) (minute : ℕ) → minute_at m series windows minute ≡ pay_by m windows (covered_by windows minute) (output_at series minute)
unfolding minute_at covered_by pay_by
minute_by m series [] minute = refl
minute_by m series (x ∷ windows) minute = go (covers x minute) (minute_by m series windows minute)
  where
    go : (t : Bool) → minute_at m series windows minute ≡ pay_by m windows (covered_by windows minute) (output_at series minute)
        → cond t (window_minute m x (output_at series minute)) (minute_at m series windows minute) ≡ pay_by m (x ∷ windows) (cond t 0 (suc (covered_by windows minute))) (output_at series minute)
    go true ih = refl
    go false ih = ih

beyond : (m : Member) (windows : List Call) (k p : ℕ) → length windows ≤ k → pay_by m windows k p ≡ 0
unfolding pay_by
beyond m [] k p h = refl
beyond m (x ∷ windows) zero p h = absurd (omega arith)
beyond m (x ∷ windows) (suc k) p h = beyond m windows k p (omega arith)

module _ (m : Member) (series : List ℕ) (windows : List Call) (minute : ℕ) where
  -- a minute that goes on pays the same again
  pub goes_same : goes_on series windows minute ≡ true → minute_at m series windows (suc minute) ≡ minute_at m series windows minute
  unfolding goes_on
  goes_same h =
      let p = each (eqb (covered_by windows minute) (covered_by windows (minute + 1))) (eqb (output_at series minute) (output_at series (minute + 1)) ∷ []) h in
      let e : minute + 1 ≡ suc minute = omega arith in
      let a : covered_by windows minute ≡ covered_by windows (suc minute) = rw e at (eqb-true (covered_by windows minute) (covered_by windows (minute + 1)) p.0) in
      let o : output_at series minute ≡ output_at series (suc minute) = rw e at (eqb-true (output_at series minute) (output_at series (minute + 1)) p.1.0) in
      minute_by m series windows (suc minute) ∙ rw (← a, ← o) (sym (minute_by m series windows minute))

  -- a minute that no window covers pays nothing
  pub uncovered_pays : is_covered windows minute ≡ false → minute_at m series windows minute ≡ 0
  unfolding is_covered
  uncovered_pays h = minute_by m series windows minute ∙ beyond m windows (covered_by windows minute) (output_at series minute) (ltb-false (covered_by windows minute) (length windows) h)

-- Where a run begins

module _ (series : List ℕ) (windows : List Call) (first minute : ℕ) where
  pub begins_first : minute ≡ first → run_begins series windows first minute ≡ is_covered windows minute
  unfolding run_begins
  begins_first e = go (is_covered windows minute)
    where
      go : (t : Bool) → (t && (eqb minute first || not (goes_on series windows (minute - 1)))) ≡ t
      go true = rw (eq-eqb minute first e) refl
      go false = refl

  pub begins_later : first < minute → run_begins series windows first minute ≡ (is_covered windows minute && not (goes_on series windows (minute - 1)))
  unfolding run_begins
  begins_later l = rw (ne_eqb minute first (λ e. omega arith)) refl

-- How long it is

module _ (series : List ℕ) (windows : List Call) (minute : ℕ) where
  pub length_on : (left : ℕ) → goes_on series windows minute ≡ true → run_length series windows minute (suc left) ≡ suc (run_length series windows (suc minute) left)
  unfolding run_length
  length_on left h = rw h refl

  pub length_ends : (left : ℕ) → goes_on series windows minute ≡ false → run_length series windows minute (suc left) ≡ 1
  unfolding run_length
  length_ends left h = rw h refl

  -- of one minute that is left
  pub length_last : run_length series windows minute 1 ≡ 1
  unfolding run_length
  length_last = go (goes_on series windows minute)
    where
      go : (t : Bool) → suc (cond t 0 0) ≡ 1
      go true = refl
      go false = refl

pub length_most : (series : List ℕ) (windows : List Call) (left minute : ℕ) → run_length series windows minute left ≤ left
unfolding run_length
length_most series windows zero minute = omega arith
length_most series windows (suc left) minute = go (goes_on series windows minute) (length_most series windows left (suc minute))
  where
    go : (t : Bool) → run_length series windows (suc minute) left ≤ left → suc (cond t (run_length series windows (suc minute) left) 0) ≤ suc left
    go true h = omega arith
    go false h = omega arith

-- A pass over the windows

module _ (b places : List ℕ) (minute : ℕ) where
  -- what is left from place k on
  abbrev pub covered_left : ℕ → ℕ
  covered_left k = covered_by (calls_at b (drop k places)) minute

  module _ (k : ℕ) (l : k < length places) where
    pub covered_hit : covers (record_at b (get_or places k 0)) minute ≡ true → covered_left k ≡ 0
    unfolding covered_by
    covered_hit h = rw (drop-cons places k 0 l, h) refl

    pub covered_miss : covers (record_at b (get_or places k 0)) minute ≡ false → covered_left k ≡ suc (covered_left (k + 1))
    unfolding covered_by
    covered_miss h = rw (add-one k, drop-cons places k 0 l, h) refl

  pub covered_none : (k : ℕ) → length places ≤ k → covered_left k ≡ 0
  unfolding covered_by
  covered_none k l = rw (drop_of_length-le places {i = k} l) refl

module _ (minute : ℕ) where
  -- the number of the call whose window is the first that covers the minute
  pub call_some : (windows : List Call) (x : Call) → Some x ≡ first_over windows minute → x.number ≡ call_over windows minute
  unfolding call_over
  call_some [] x h = cc
  call_some (y ∷ windows) x h = go (covers y minute) h (call_some windows x)
    where
      go : (t : Bool) → Some x ≡ cond t (Some y) (first_over windows minute) → (Some x ≡ first_over windows minute → x.number ≡ call_over windows minute)
          → x.number ≡ cond t y.number (call_over windows minute)
      go true h ih = cc
      go false h ih = ih h

  pub call_none : (windows : List Call) → None ≡ first_over windows minute → 0 ≡ call_over windows minute
  unfolding call_over
  call_none [] h = refl
  call_none (y ∷ windows) h = go (covers y minute) h (call_none windows)
    where
      go : (t : Bool) → None ≡ cond t (Some y) (first_over windows minute) → (None ≡ first_over windows minute → 0 ≡ call_over windows minute)
          → 0 ≡ cond t y.number (call_over windows minute)
      go true h ih = cc
      go false h ih = ih h

-- Whether a run begins, as it is asked

module _ (series : List ℕ) (b places : List ℕ) (first minute k : ℕ) (e : k ≡ covered_by (calls_at b places) minute) where
  abbrev windows : List Call
  windows = calls_at b places

  covered_yes : k < length places → is_covered windows minute ≡ true
  unfolding is_covered
  covered_yes l = lt-ltb (covered_by windows minute) (length windows) (omega (arith, length-map places (record_at b)))

  pub begins_no : length places ≤ k → run_begins series windows first minute ≡ false
  unfolding run_begins is_covered
  begins_no l = rw (le-ltb (covered_by windows minute) (length windows) (omega (arith, length-map places (record_at b)))) refl

  pub begins_at_first : k < length places → minute ≡ first → run_begins series windows first minute ≡ true
  begins_at_first l d = begins_first series windows first minute d ∙ covered_yes l

  pub begins_behind : k < length places → first < minute → run_begins series windows first minute ≡ not (goes_on series windows (minute - 1))
  begins_behind l d = begins_later series windows first minute d ∙ rw (covered_yes l) refl

-- How long a run is, minute by minute

module _ (series : List ℕ) (windows : List Call) (minute left gone : ℕ) (l : gone + 1 < left) where
  pub one_longer : goes_on series windows (minute + gone) ≡ true → run_length series windows (minute + gone) (left - gone) ≡ suc (run_length series windows (minute + (gone + 1)) (left - (gone + 1)))
  one_longer h =
      let e : left - gone ≡ suc (left - (gone + 1)) = omega arith in
      let d : minute + (gone + 1) ≡ suc (minute + gone) = omega arith in
      rw (e, d) (length_on series windows (minute + gone) (left - (gone + 1)) h)

  pub no_longer : goes_on series windows (minute + gone) ≡ false → run_length series windows (minute + gone) (left - gone) ≡ 1
  no_longer h =
      let e : left - gone ≡ suc (left - (gone + 1)) = omega arith in
      rw e (length_ends series windows (minute + gone) (left - (gone + 1)) h)
