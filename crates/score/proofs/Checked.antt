-- What an accepted book leaves for scoring. Assumes nothing.
use mathlib.Core.Path.{◌≡◌, refl, ap}
use mathlib.Core.Bool.{Bool, true, false, cond}
use mathlib.Core.List.{List}
use Prim.Native.Nat.{ℕ, zero, suc, ◌+◌, ◌*◌, ◌≤◌, ◌<◌}
use native.Mathlib.Nat.{not-suc-le-zero}
use native.Mathlib.Omega.{arith}
use lib.Dec.{eqb}
use lib.ListN.{length}
use borrow.Author.Tests.{eqb-true, eqb-false}
use Rattle.units.specs.Month.{quarters_of}
use Rattle.units.proofs.Laws.{quarters_are, quarters_most}
use Rattle.call.specs.Key.{call_key}
use Rattle.call.specs.Limits.{call_is_sound}
use Rattle.book.specs.declared.Verdict.{Verdict}
use Rattle.book.specs.Book.{header_at, count_at, record_at}
use Rattle.book.proofs.Records.{judge_zero}
use Rattle.book.proofs.Exact.{accepted_tests}
use Rattle.book.specs.Check.{refused, accepted, header_minutes, judge, check_records, check}

module _ (m : ℕ) (b : List ℕ) where
  one : (low i n : ℕ) → check_records m b low i (suc n) ≡ accepted → (judge m b low i ≡ 0) × (check_records m b (suc (call_key (record_at b i))) (suc i) n ≡ accepted)
  unfolding check_records
  one low i n h = go (eqb (judge m b low i) 0) refl h
    where
      go : (t : Bool) → eqb (judge m b low i) 0 ≡ t → cond t (check_records m b (suc (call_key (record_at b i))) (suc i) n) (refused (judge m b low i) i) ≡ accepted
          → (judge m b low i ≡ 0) × (check_records m b (suc (call_key (record_at b i))) (suc i) n ≡ accepted)
      go true e h = (eqb-true _ _ e, h)
      go false e h = absurd (eqb-false _ _ e (ap (λ (x : Verdict). x.number) h))

  -- every record that passes in turn is sound, and its key is at least what was asked of the first
  pub each_passes : (low i n : ℕ) → check_records m b low i n ≡ accepted → (j : ℕ) → j < n → (call_is_sound m (record_at b (i + j)) ≡ true) × (low ≤ call_key (record_at b (i + j)))
  each_passes low i zero h j l = absurd (not-suc-le-zero l)
  each_passes low i (suc n) h zero l = let e : i + 0 ≡ i = omega arith in let q = judge_zero m b low i (one low i n h).0 in rw e (q.0, q.2)
  each_passes low i (suc n) h (suc j) l =
      let e : i + suc j ≡ suc i + j = omega arith in
      let p = each_passes (suc (call_key (record_at b i))) (suc i) n (one low i n h).1 j (omega arith) in
      let q = judge_zero m b low i (one low i n h).0 in
      rw e (p.0, omega (arith, p.1, q.2))

  -- a later key is above an earlier one
  pub keys_rise : (low i n : ℕ) → check_records m b low i n ≡ accepted → (j k : ℕ) → j < k → k < n → call_key (record_at b (i + j)) < call_key (record_at b (i + k))
  keys_rise low i zero h j k l r = absurd (not-suc-le-zero r)
  keys_rise low i (suc n) h j zero l r = absurd (not-suc-le-zero l)
  keys_rise low i (suc n) h zero (suc k) l r =
      let e : i + suc k ≡ suc i + k = omega arith in
      let d : i + 0 ≡ i = omega arith in
      rw (e, d) (each_passes (suc (call_key (record_at b i))) (suc i) n (one low i n h).1 k (omega arith)).1
  keys_rise low i (suc n) h (suc j) (suc k) l r =
      let e : i + suc k ≡ suc i + k = omega arith in
      let d : i + suc j ≡ suc i + j = omega arith in
      rw (e, d) (keys_rise (suc (call_key (record_at b i))) (suc i) n (one low i n h).1 j k (omega arith) (omega arith))

-- each record of an accepted book is sound
pub all_sound : (b : List ℕ) → check b ≡ accepted → (i : ℕ) → i < count_at b → call_is_sound (header_minutes (header_at b)) (record_at b i) ≡ true
all_sound b h i l =
    let p = each_passes (header_minutes (header_at b)) b 0 0 (count_at b) (accepted_tests b h).records i l in
    let e : 0 + i ≡ i = omega arith in
    rw e at p.0

-- and its keys rise
pub all_rise : (b : List ℕ) → check b ≡ accepted → (j k : ℕ) → j < k → k < count_at b → call_key (record_at b j) < call_key (record_at b k)
all_rise b h j k l r =
    let p = keys_rise (header_minutes (header_at b)) b 0 0 (count_at b) (accepted_tests b h).records j k l r in
    let d : 0 + j ≡ j = omega arith in
    let e : 0 + k ≡ k = omega arith in
    rw (d, e) at p

-- a series of the month's quarter hours spans the month's minutes
pub spans_month : (b series : List ℕ) → length series ≡ quarters_of (header_at b).year (header_at b).month → (15 * length series ≡ header_minutes (header_at b)) × (length series ≤ 2976)
unfolding header_minutes
spans_month b series e =
    let q = quarters_are (header_at b).year (header_at b).month in
    let n = quarters_most (header_at b).year (header_at b).month in
    (omega arith, omega arith)
