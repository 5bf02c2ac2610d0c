-- The parts' grains and Wh add up to the month's. Assumes nothing.
use mathlib.Core.Path.{◌≡◌, refl, sym, ◌∙◌, ap}
use mathlib.Core.Bool.{Bool, true, false}
use mathlib.Core.List.{List, [], ◌∷◌, ◌++◌}
use Prim.Native.Nat.{ℕ, zero, suc, ◌+◌, ◌-◌}
use native.Mathlib.Nat.{zero-add, add-zero}
use native.Mathlib.Omega.{arith}
use lib.IntN.{ℤ, pos, ◌+ℤ◌, +ℤ_assoc, +ℤ_idl, +ℤ_idr}
use lib.ListN.{length, replicate}
use Rattle.book.specs.Book.{most_keys, record_at}
use Rattle.pay.specs.declared.Member.{Member}
use Rattle.pay.specs.Sum.{total, total_z}
use Rattle.pay.proofs.Sums.{total_none, total0_suc, total_z_none, total_z_suc}
use Rattle.score.specs.Scoring.{is_own_live, pay_of, pay_at, wh_at}
use Rattle.score.proofs.Turns.{pay_own, pay_none, wh_own, wh_none}
use Rattle.explain.specs.declared.CallPart.{CallPart}
use Rattle.explain.specs.Explaining.{call_part, blank_part, filled_up, parts_grains, parts_wh}
use Rattle.explain.specs.Inner.{parts_before}
use Rattle.explain.proofs.Before.{before_none, before_own, before_other}

grains_append : (ps qs : List CallPart) → parts_grains (ps ++ qs) ≡ parts_grains ps + parts_grains qs
unfolding parts_grains
grains_append [] qs = sym (zero-add (parts_grains qs))
grains_append (p ∷ ps) qs = omega (arith, grains_append ps qs)

wh_append : (ps qs : List CallPart) → parts_wh (ps ++ qs) ≡ parts_wh ps +ℤ parts_wh qs
unfolding parts_wh
wh_append [] qs = sym (+ℤ_idl (parts_wh qs))
wh_append (p ∷ ps) qs = ap (λ (z : ℤ). p.wh.0 +ℤ z) (wh_append ps qs) ∙ sym (+ℤ_assoc p.wh.0 (parts_wh ps) (parts_wh qs))

-- blank parts add nothing
blank_grains : (n : ℕ) → parts_grains (replicate n blank_part) ≡ 0
unfolding parts_grains blank_part
blank_grains zero = refl
blank_grains (suc n) = omega (arith, blank_grains n)

blank_wh : (n : ℕ) → parts_wh (replicate n blank_part) ≡ pos 0
unfolding parts_wh blank_part
blank_wh zero = refl
blank_wh (suc n) = +ℤ_idl (parts_wh (replicate n blank_part)) ∙ blank_wh n

pub filled_grains : (ps : List CallPart) → parts_grains (filled_up ps) ≡ parts_grains ps
unfolding filled_up
filled_grains ps = let n = most_keys - length ps in omega (arith, grains_append ps (replicate n blank_part), blank_grains n)

pub filled_wh : (ps : List CallPart) → parts_wh (filled_up ps) ≡ parts_wh ps
unfolding filled_up
filled_wh ps =
    let n = most_keys - length ps in
    wh_append ps (replicate n blank_part) ∙ ap (λ (z : ℤ). parts_wh ps +ℤ z) (blank_wh n) ∙ +ℤ_idr (parts_wh ps)

module _ (m : Member) (b series : List ℕ) where
  abbrev before : ℕ → List CallPart
  before n = parts_before m b series n

  one_grains : (n : ℕ) → parts_grains (call_part m series n (record_at b n) ∷ []) ≡ pay_of m series (record_at b n) → is_own_live m (record_at b n) ≡ true
      → parts_grains (before (suc n)) ≡ parts_grains (before n) + pay_of m series (record_at b n)
  one_grains n e h = rw (before_own m b series n h) (grains_append (before n) (call_part m series n (record_at b n) ∷ []) ∙ ap (λ (k : ℕ). parts_grains (before n) + k) e)

  pub before_grains : (n : ℕ) → parts_grains (before n) ≡ total (pay_at m series (record_at b)) 0 n
  unfolding parts_grains pay_at call_part
  before_grains zero = rw (before_none m b series) (sym (total_none (pay_at m series (record_at b)) 0))
  before_grains (suc n) = go (is_own_live m (record_at b n)) refl (before_grains n)
    where
      go : (t : Bool) → is_own_live m (record_at b n) ≡ t → parts_grains (before n) ≡ total (pay_at m series (record_at b)) 0 n
          → parts_grains (before (suc n)) ≡ total (pay_at m series (record_at b)) 0 (suc n)
      go true h ih = omega (arith, one_grains n (rw (pay_own m series (record_at b n) h) (add-zero _)) h, total0_suc (pay_at m series (record_at b)) n)
      go false h ih = rw (before_other m b series n h) (omega (arith, total0_suc (pay_at m series (record_at b)) n, pay_none m series (record_at b n) h))

  pub before_wh : (n : ℕ) → parts_wh (before n) ≡ total_z (wh_at m (record_at b)) n
  unfolding parts_wh wh_at call_part
  before_wh zero = rw (before_none m b series) (sym (total_z_none (wh_at m (record_at b))))
  before_wh (suc n) = go (is_own_live m (record_at b n)) refl (before_wh n)
    where
      go : (t : Bool) → is_own_live m (record_at b n) ≡ t → parts_wh (before n) ≡ total_z (wh_at m (record_at b)) n → parts_wh (before (suc n)) ≡ total_z (wh_at m (record_at b)) (suc n)
      go true h ih =
          rw (before_own m b series n h, total_z_suc (wh_at m (record_at b)) n, wh_own m series (record_at b n) h)
          (wh_append (before n) (call_part m series n (record_at b n) ∷ []) ∙ rw (ih, +ℤ_idr) refl)
      go false h ih = rw (before_other m b series n h, total_z_suc (wh_at m (record_at b)) n, wh_none m series (record_at b n) h) (ih ∙ sym (+ℤ_idr _))
