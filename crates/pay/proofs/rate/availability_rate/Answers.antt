use mathlib.Core.Path.{◌≡◌, refl, sym, ◌∙◌, ap}
use mathlib.Core.Bool.{Bool, true, false, cond, ◌&&◌}
use mathlib.Core.List.{[], ◌∷◌}
use Prim.Native.Nat.{ℕ, ◌-◌, ◌*◌}
use native.Mathlib.Omega.{arith}
use lib.Dec.{ltb}
use borrow.Author.Tests.{ltb-false}
use Rattle.le.proofs.Tests.{each}
use Rattle.pay.specs.Member.{has_availability}
use Rattle.pay.specs.Rate.{availability_rate}
use Rattle.pay.proofs.rate.availability_rate.Goals as goal

some : (kind b : ℕ) → (has_availability kind && ltb 9800 b) ≡ true → (b - 9800) * 6000 ≡ availability_rate kind b
unfolding availability_rate
some kind b h = simp (each (has_availability kind) (ltb 9800 b ∷ []) h).0

none : (kind b : ℕ) → (has_availability kind && ltb 9800 b) ≡ false → 0 ≡ availability_rate kind b
unfolding availability_rate
none kind b h = go (has_availability kind) h
  where
    go : (t : Bool) → (t && ltb 9800 b) ≡ false → 0 ≡ cond t ((b - 9800) * 6000) 0
    go true h = omega (arith, ltb-false 9800 b h)
    go false h = refl

pub returns-then-has_availability-b : goal.returns-then-has_availability-b
returns-then-has_availability-b c =
    let e = c.has_availability.ensures in
    some _ _ (ap (λ (t : Bool). t && ltb 9800 c.args.b) (sym e) ∙ c.if-has_availability-b.true)

pub returns : goal.returns
returns c =
    let e = c.has_availability.ensures in
    none _ _ (ap (λ (t : Bool). t && ltb 9800 c.args.b) (sym e) ∙ c.if-has_availability-b.false)
