-- The pay of a minute, case by case, and how a pass over the windows finds it. Assumes nothing.
use mathlib.Core.Path.{◌≡◌, refl}
use mathlib.Core.Bool.{Bool, true, false, cond}
use mathlib.Core.List.{List, [], ◌∷◌}
use Rattle.std.specs.Prelude.{Option, None, Some}
use Prim.Native.Nat.{ℕ, ◌+◌, ◌≤◌, ◌<◌}
use native.Mathlib.Numerals.{add-one}
use native.Mathlib.Omega.{arith}
use lib.ListN.{get_or, length, drop}
use lib.Seq.{drop-cons}
use borrow.Author.Tests.{ne_eqb}
use Rattle.call.specs.declared.Call.{Call}
use Rattle.call.specs.Services.{deep_peak, reserve}
use Rattle.book.specs.Book.{record_at}
use Rattle.pay.specs.declared.Member.{Member}
use Rattle.pay.specs.Member.{most_rated}
use Rattle.pay.specs.Window.{deep_peak_minute, reserve_minute, minute_pay}
use Rattle.pay.specs.Event.{called_up}
use Rattle.pay.proofs.Bounds.{minute_most}
use Rattle.reckon.specs.Reckoning.{covers, output_at, window_minute, minute_at}
use Rattle.reckon.specs.Inner.{calls_at, first_over, most_minute}

module _ (m : Member) (x : Call) (p : ℕ) where
  pub window_deep : x.service ≡ deep_peak → deep_peak_minute m.kind m.rated.0 p ≡ window_minute m x p
  unfolding window_minute minute_pay
  window_deep e = simp e

  pub window_reserve : x.service ≡ reserve → reserve_minute m.kind m.rated.0 (called_up x.a) p ≡ window_minute m x p
  unfolding window_minute minute_pay
  window_reserve e = simp e

  pub window_other : (x.service ≡ deep_peak → ⊥) → (x.service ≡ reserve → ⊥) → 0 ≡ window_minute m x p
  unfolding window_minute minute_pay
  window_other d r = simp (ne_eqb x.service deep_peak d, ne_eqb x.service reserve r)

  pub window_most : m.rated.0 ≤ most_rated → called_up x.a < 4294967296 → window_minute m x p ≤ most_minute
  unfolding window_minute
  window_most h k = omega (arith, minute_most m x.service (called_up x.a) p)

module _ (m : Member) (series : List ℕ) (minute : ℕ) where
  -- a minute's pay by the first window that covers it
  pub minute_some : (windows : List Call) (x : Call) → Some x ≡ first_over windows minute → window_minute m x (output_at series minute) ≡ minute_at m series windows minute
  unfolding minute_at
  minute_some [] x h = cc
  minute_some (y ∷ windows) x h = go (covers y minute) h (minute_some windows x)
    where
      go : (t : Bool) → Some x ≡ cond t (Some y) (first_over windows minute)
          → (Some x ≡ first_over windows minute → window_minute m x (output_at series minute) ≡ minute_at m series windows minute)
          → window_minute m x (output_at series minute) ≡ cond t (window_minute m y (output_at series minute)) (minute_at m series windows minute)
      go true h ih = cc
      go false h ih = ih h

  pub minute_none : (windows : List Call) → None ≡ first_over windows minute → 0 ≡ minute_at m series windows minute
  unfolding minute_at
  minute_none [] h = refl
  minute_none (y ∷ windows) h = go (covers y minute) h (minute_none windows)
    where
      go : (t : Bool) → None ≡ cond t (Some y) (first_over windows minute) → (None ≡ first_over windows minute → 0 ≡ minute_at m series windows minute)
          → 0 ≡ cond t (window_minute m y (output_at series minute)) (minute_at m series windows minute)
      go true h ih = cc
      go false h ih = ih h

module _ (b places : List ℕ) (minute : ℕ) where
  -- the first window that covers the minute among those from place k on
  abbrev pub left : ℕ → Option Call
  left k = first_over (calls_at b (drop k places)) minute

  module _ (k : ℕ) (l : k < length places) where
    pub left_hit : covers (record_at b (get_or places k 0)) minute ≡ true → left k ≡ Some (record_at b (get_or places k 0))
    left_hit h = rw (drop-cons places k 0 l, h) refl

    pub left_miss : covers (record_at b (get_or places k 0)) minute ≡ false → left k ≡ left (k + 1)
    left_miss h = rw (add-one k, drop-cons places k 0 l, h) refl
