-- One window by itself: its minutes in the walk are its quarter hours in the first way. Assumes nothing.
use mathlib.Core.Path.{◌≡◌, refl, ◌∙◌}
use mathlib.Core.Bool.{true, false, cond}
use mathlib.Core.List.{List, [], ◌∷◌}
use Prim.Native.Nat.{ℕ, ◌+◌, ◌*◌, ◌/◌, ◌%◌, ◌≤◌, ◌<◌}
use native.Mathlib.Omega.{arith}
use lib.Dec.{leb}
use lib.ListN.{get_or}
use borrow.Author.Tests.{le-leb, lt-leb, leb-true}
use Rattle.le.proofs.Tests.{each}
use Rattle.call.specs.declared.Call.{Call}
use Rattle.pay.specs.declared.Member.{Member}
use Rattle.pay.specs.Sum.{total}
use Rattle.pay.specs.Window.{minute_pay, quarter_pay, quarter_at, window_pay}
use Rattle.pay.specs.Event.{called_up}
use Rattle.pay.proofs.Sums.{total_same}
use Rattle.reckon.specs.Reckoning.{covers, output_at, window_minute}
use Rattle.reckon.proofs.Sums.{by_quarters, total_between}

module _ (x : Call) (minute : ℕ) where
  pub covers_in : x.start ≤ minute → minute < x.start + x.length → covers x minute ≡ true
  unfolding covers
  covers_in l h = simp (le-leb x.start minute l, le-leb (minute + 1) (x.start + x.length) (omega arith))

  pub covers_before : minute < x.start → covers x minute ≡ false
  unfolding covers
  covers_before l = simp (lt-leb x.start minute l)

  pub covers_behind : x.start + x.length ≤ minute → covers x minute ≡ false
  unfolding covers
  covers_behind l = simp (le-leb x.start minute (omega arith), lt-leb (minute + 1) (x.start + x.length) (omega arith))

  pub covered : covers x minute ≡ true → (x.start ≤ minute) × (minute < x.start + x.length)
  unfolding covers
  covered h =
      let p = each (leb x.start minute) (leb (minute + 1) (x.start + x.length) ∷ []) h in
      (leb-true _ _ p.0, omega (arith, leb-true (minute + 1) (x.start + x.length) p.1.0))

-- the pay of a minute were it in the window
unfoldable pub paying : Member → List ℕ → Call → ℕ → ℕ
paying m series x minute = window_minute m x (output_at series minute)

-- the pay of a minute by this window alone
unfoldable pub alone : Member → List ℕ → Call → ℕ → ℕ
alone m series x minute = cond (covers x minute) (paying m series x minute) 0

module _ (m : Member) (series : List ℕ) (x : Call) where
  pub alone_in_lem : (minute : ℕ) → covers x minute ≡ true → alone m series x minute ≡ paying m series x minute
  unfolding alone
  alone_in_lem minute h = rw h refl

  pub alone_out : (minute : ℕ) → covers x minute ≡ false → alone m series x minute ≡ 0
  unfolding alone
  alone_out minute h = rw h refl

  -- of quarter hour i
  unfoldable quarter : ℕ → ℕ
  quarter i = minute_pay m x.service (called_up x.a) (get_or series i 0)

  minute_by_quarter : (minute : ℕ) → paying m series x minute ≡ quarter (minute / 15)
  unfolding paying window_minute quarter
  minute_by_quarter minute = refl

  quarter_is : (i : ℕ) → quarter_at m x.service (called_up x.a) series i ≡ quarter i * 15
  unfolding quarter_at quarter_pay quarter
  quarter_is i = refl

  -- A WINDOW'S MINUTES IN THE WALK ARE ITS PAY THE FIRST WAY, where it begins and ends at quarter hours of the month.
  pub window_walked : (minutes : ℕ) → x.start % 15 ≡ 0 → x.length % 15 ≡ 0 → x.start + x.length ≤ minutes
      → total (alone m series x) 0 minutes ≡ window_pay m x.service (called_up x.a) series x.start x.length
  unfolding window_pay
  window_walked minutes s n l =
      let a : 15 * (x.start / 15) ≡ x.start = omega arith in
      let d : 15 * (x.length / 15) ≡ x.length = omega arith in
      total_between (alone m series x) x.start x.length minutes l
      (λ i h. alone_out i (covers_before x i h))
      (λ i h. alone_out i (covers_behind x i h))
      ∙ total_same (alone m series x) (paying m series x) x.start x.length (λ i h. alone_in_lem (x.start + i) (covers_in x (x.start + i) (omega arith) (omega arith)))
      ∙ rw (a, d) at (by_quarters (paying m series x) quarter (quarter_at m x.service (called_up x.a) series) minute_by_quarter quarter_is (x.start / 15) (x.length / 15))
