-- What an amount gives or takes, by its sign. Assumes nothing.
use mathlib.Core.Path.{◌≡◌, refl, ap, ◌∙◌}
use mathlib.Core.Bool.{Bool, true, false}
use Prim.Native.Nat.{ℕ, ◌<◌}
use native.Mathlib.Omega.{arith}
use borrow.Author.Tests.{ltb-true}
use lib.IntN.{ℤ, pos, negsuc, nat_abs}
use lib.Signed.{lt_z}
use mir.Syntax.{w64}
use mir.Val.{SFits, to_z, of_z}
use mir.ValLaws.{to_z-of_z}
use Rattle.report.specs.Totals.{due_of, owed_of}

not_yes : ◌≡◌ {A = Bool} true false → ⊥
not_yes t = let e : ◌≡◌ {A = ℕ} 0 1 = cc in omega arith

due_neg : (z : ℤ) → lt_z z (pos 0) ≡ true → 0 ≡ due_of z
unfolding due_of
due_neg (pos n) t = absurd (let h : n < 0 = ltb-true n 0 t in omega arith)
due_neg (negsuc n) t = refl

due_pos : (z : ℤ) → lt_z z (pos 0) ≡ false → nat_abs z ≡ due_of z
unfolding due_of
due_pos (pos n) t = refl
due_pos (negsuc n) t = absurd (not_yes t)

owed_neg : (z : ℤ) → lt_z z (pos 0) ≡ true → nat_abs z ≡ owed_of z
unfolding owed_of
owed_neg (pos n) t = absurd (let h : n < 0 = ltb-true n 0 t in omega arith)
owed_neg (negsuc n) t = refl

owed_pos : (z : ℤ) → lt_z z (pos 0) ≡ false → 0 ≡ owed_of z
unfolding owed_of
owed_pos (pos n) t = refl
owed_pos (negsuc n) t = absurd (not_yes t)

-- an amount of 64 bits, which comes through its bits
module _ (z : ℤ) (f : SFits w64 z) where
  same : to_z w64 (of_z w64 z) ≡ z
  same = to_z-of_z w64 z f

  pub due_below : lt_z (to_z w64 (of_z w64 z)) (pos 0) ≡ true → 0 ≡ due_of z
  due_below t = due_neg z (rw same at t)

  pub owed_above : lt_z (to_z w64 (of_z w64 z)) (pos 0) ≡ false → 0 ≡ owed_of z
  owed_above t = owed_pos z (rw same at t)

  module _ (size : ℕ) (e : size ≡ nat_abs (to_z w64 (of_z w64 z))) where
    size_is : size ≡ nat_abs z
    size_is = e ∙ ap nat_abs same

    pub due_above : lt_z (to_z w64 (of_z w64 z)) (pos 0) ≡ false → size ≡ due_of z
    due_above t = size_is ∙ due_pos z (rw same at t)

    pub owed_below : lt_z (to_z w64 (of_z w64 z)) (pos 0) ≡ true → size ≡ owed_of z
    owed_below t = size_is ∙ owed_neg z (rw same at t)
