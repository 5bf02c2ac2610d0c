-- The runs of a service add up to its minutes: each minute is in the run that it goes on. Assumes nothing.
use mathlib.Core.Path.{◌≡◌, refl, sym, ◌∙◌, ap}
use mathlib.Core.Bool.{Bool, true, false, cond, ◌&&◌}
use mathlib.Core.List.{List}
use Prim.Native.Nat.{ℕ, zero, suc, ◌+◌, ◌-◌, ◌*◌, ◌≤◌, ◌<◌}
use native.Mathlib.Nat.{suc-mul, mul-zero}
use native.Mathlib.Omega.{arith}
use Rattle.call.specs.declared.Call.{Call}
use Rattle.pay.specs.declared.Member.{Member}
use Rattle.pay.specs.Sum.{total}
use Rattle.pay.proofs.Sums.{total_none, total_one, total_split, total_suc, total0_suc}
use Rattle.reckon.specs.Reckoning.{minute_at}
use Rattle.day_runs.specs.DayRuns.{is_covered, goes_on, run_begins, run_length}
use Rattle.day_runs.proofs.Goes.{goes_same, uncovered_pays, begins_first, begins_later, length_on, length_ends, length_last}

-- the first term, and the others
pub total_first : (f : ℕ → ℕ) (s n : ℕ) → total f s (suc n) ≡ f s + total f (suc s) n
total_first f s n =
    let e : suc n ≡ 1 + n = omega arith in
    let d : s + 1 ≡ suc s = omega arith in
    ap (total f s) e ∙ total_split f s 1 n ∙ rw (d, total_one f s) refl

-- from 0 on
pub total_moved : (f g : ℕ → ℕ) (s n : ℕ) → ((i : ℕ) → i < n → g i ≡ f (s + i)) → total g 0 n ≡ total f s n
total_moved f g s zero h = total_none g 0 ∙ sym (total_none f s)
total_moved f g s (suc n) h = omega (arith, total0_suc g n, total_suc f s n, total_moved f g s n (λ i l. h i (omega arith)), h n (omega arith))

-- each second term, and those between
pub total_pairs : (f g h : ℕ → ℕ) → ((i : ℕ) → g i ≡ f (2 * i)) → ((i : ℕ) → h i ≡ f (2 * i + 1)) → (n : ℕ) → total f 0 (2 * n) ≡ total g 0 n + total h 0 n
total_pairs f g h p q zero = omega (arith, total_none f 0, total_none g 0, total_none h 0)
total_pairs f g h p q (suc n) =
    let e : 2 * suc n ≡ suc (suc (2 * n)) = omega arith in
    let d : suc (2 * n) ≡ 2 * n + 1 = omega arith in
    let a : total f 0 (suc (suc (2 * n))) ≡ total f 0 (2 * n) + f (2 * n) + f (2 * n + 1) = total0_suc f (suc (2 * n)) ∙ rw (total0_suc f (2 * n), d) refl in
    rw e (omega (arith, a, total0_suc g n, total0_suc h n, total_pairs f g h p q n, p n, q n))

-- what the run that begins at a minute pays, up to an end; nothing where none begins
unfoldable pub begun : Member → List ℕ → List Call → ℕ → ℕ → ℕ → ℕ
begun m series windows first end minute = cond (run_begins series windows first minute) (run_length series windows minute (end - minute) * minute_at m series windows minute) 0

module _ (m : Member) (series : List ℕ) (windows : List Call) (first end : ℕ) where
  abbrev pay : ℕ → ℕ
  pay minute = minute_at m series windows minute

  abbrev start : ℕ → ℕ
  start minute = begun m series windows first end minute

  abbrev long : ℕ → ℕ → ℕ
  long minute left = run_length series windows minute left

  start_yes : (minute : ℕ) → run_begins series windows first minute ≡ true → start minute ≡ long minute (end - minute) * pay minute
  unfolding begun
  start_yes minute h = rw h refl

  start_no : (minute : ℕ) → run_begins series windows first minute ≡ false → start minute ≡ 0
  unfolding begun
  start_no minute h = rw h refl

  and_no : (t : Bool) → (t && false) ≡ false
  and_no true = refl
  and_no false = refl

  and_yes : (t : Bool) → (t && true) ≡ t
  and_yes true = refl
  and_yes false = refl

  -- a minute that goes on begins no run
  goes_start : (minute : ℕ) → first ≤ minute → goes_on series windows minute ≡ true → start (suc minute) ≡ 0
  goes_start minute l h =
      let e : suc minute - 1 ≡ minute = omega arith in
      start_no (suc minute) (begins_later series windows first (suc minute) (omega arith) ∙ rw (e, h) (and_no (is_covered windows (suc minute))))

  -- one that does not begins one with the next, if that is covered; if it is not, it pays nothing
  ends_start : (minute left : ℕ) → first ≤ minute → end ≡ suc minute + left → goes_on series windows minute ≡ false → start (suc minute) ≡ long (suc minute) left * pay (suc minute)
  ends_start minute left l e h = go (is_covered windows (suc minute)) refl
    where
      begins : run_begins series windows first (suc minute) ≡ is_covered windows (suc minute)
      begins =
          let d : suc minute - 1 ≡ minute = omega arith in
          begins_later series windows first (suc minute) (omega arith) ∙ rw (d, h) (and_yes (is_covered windows (suc minute)))

      go : (t : Bool) → is_covered windows (suc minute) ≡ t → start (suc minute) ≡ long (suc minute) left * pay (suc minute)
      go true c = let d : end - suc minute ≡ left = omega arith in start_yes (suc minute) (begins ∙ c) ∙ rw d refl
      go false c = start_no (suc minute) (begins ∙ c) ∙ sym (rw (uncovered_pays m series windows (suc minute) c) (mul-zero (long (suc minute) left)))

  -- from a minute on: the run that it is in, and those that begin behind it
  from_on : (n minute : ℕ) → first ≤ minute → end ≡ suc minute + n → total pay minute (suc n) ≡ long minute (suc n) * pay minute + total start (suc minute) n
  from_on zero minute l e =
      total_one pay minute ∙ rw (length_last series windows minute, total_none start (suc minute)) (omega arith)
  from_on (suc n) minute l e =
      let ih = from_on n (suc minute) (omega arith) (omega arith) in
      go (goes_on series windows minute) refl (total_first pay minute (suc n)) ih (total_first start (suc minute) n)
    where
      go : (t : Bool) → goes_on series windows minute ≡ t
          → total pay minute (suc (suc n)) ≡ pay minute + total pay (suc minute) (suc n)
          → total pay (suc minute) (suc n) ≡ long (suc minute) (suc n) * pay (suc minute) + total start (suc (suc minute)) n
          → total start (suc minute) (suc n) ≡ start (suc minute) + total start (suc (suc minute)) n
          → total pay minute (suc (suc n)) ≡ long minute (suc (suc n)) * pay minute + total start (suc minute) (suc n)
      go true h a b d =
          let s : pay (suc minute) ≡ pay minute = goes_same m series windows minute h in
          let b' : total pay (suc minute) (suc n) ≡ long (suc minute) (suc n) * pay minute + total start (suc (suc minute)) n = rw s at b in
          rw (length_on series windows minute (suc n) h) (omega (arith, a, b', d, goes_start minute l h, suc-mul (long (suc minute) (suc n)) (pay minute)))
      go false h a b d =
          rw (length_ends series windows minute (suc n) h) (omega (arith, a, b, d, ends_start minute (suc n) l (omega arith) h))

  -- THE RUNS THAT BEGIN IN SO MANY MINUTES PAY WHAT THE MINUTES PAY.
  pub runs_are_minutes : (n : ℕ) → end ≡ first + suc n → total start first (suc n) ≡ total pay first (suc n)
  runs_are_minutes n e = go (is_covered windows first) refl (from_on n first (omega arith) (omega arith)) (total_first start first n)
    where
      begins : run_begins series windows first first ≡ is_covered windows first
      begins = begins_first series windows first first refl

      go : (t : Bool) → is_covered windows first ≡ t
          → total pay first (suc n) ≡ long first (suc n) * pay first + total start (suc first) n
          → total start first (suc n) ≡ start first + total start (suc first) n
          → total start first (suc n) ≡ total pay first (suc n)
      go true c a b =
          let d : end - first ≡ suc n = omega arith in
          let s : start first ≡ long first (suc n) * pay first = start_yes first (begins ∙ c) ∙ rw d refl in
          omega (arith, a, b, s)
      go false c a b =
          let s : start first ≡ 0 = start_no first (begins ∙ c) in
          let z : long first (suc n) * pay first ≡ 0 = rw (uncovered_pays m series windows first c) (mul-zero (long first (suc n))) in
          omega (arith, a, b, s, z)
