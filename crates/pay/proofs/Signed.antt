-- Laws of signed energy. Assumes nothing.
use mathlib.Core.Path.{◌≡◌, refl}
use mathlib.Core.Bool.{Bool, true, false, cond, true≢false}
use Prim.Native.Nat.{ℕ, suc, ◌+◌, ◌-◌, ◌^◌, ◌≤◌, ◌<◌}
use native.Mathlib.Nat.{not-suc-le-zero}
use native.Mathlib.Omega.{arith}
use borrow.Author.Tests.{ltb-true, ltb-false, leb-true, ne_eqb}
use lib.Dec.{T, ltb, eqb}
use lib.IntN.{ℤ, pos, negsuc, sub_ℕ, nat_abs, ◌+ℤ◌}
use lib.Signed.{mag, lt_z, le_z, non_neg}
use mir.Syntax.{w32, w64}
use mir.Val.{SFits, to_z, of_z}
use mir.ValLaws.{to_z-of_z}
use Rattle.pay.specs.Open.{is_zero}
use Rattle.pay.specs.Event.{event_wh, clamp}

mag_cond : (t : Bool) {x y k : ℕ} → x ≤ k → y ≤ k → mag (cond t (negsuc x) (pos y)) ≤ k
mag_cond true p q = p
mag_cond false p q = q

mag_sub : (a b : ℕ) → mag (sub_ℕ a b) ≤ a + b
mag_sub a b = mag_cond (ltb a b) (omega arith) (omega arith)

pub mag_plus : (x y : ℤ) → mag (x +ℤ y) ≤ mag x + mag y + 1
mag_plus (pos a) (pos b) = omega arith
mag_plus (pos a) (negsuc b) = omega (arith, mag_sub a (suc b))
mag_plus (negsuc a) (pos b) = omega (arith, mag_sub b (suc a))
mag_plus (negsuc a) (negsuc b) = omega arith

-- what counts of an event lies no further from zero than what was moved
pub event_most : (a : ℤ) (b c k : ℕ) → mag a ≤ k → mag (event_wh a b c) ≤ k
unfolding event_wh
event_most a b c k p = go (eqb c 1) a p
  where
    below : (n : ℕ) (t : Bool) → ltb n b ≡ t → n ≤ k → mag (cond t (pos n) (pos b)) ≤ k
    below n true e p = p
    below n false e p = omega (arith, ltb-false n b e)

    go : (t : Bool) (a : ℤ) → mag a ≤ k → mag (cond t (pos 0) (cond (lt_z a (pos b)) a (pos b))) ≤ k
    go true a p = omega arith
    go false (pos n) p = below n (ltb n b) refl p
    go false (negsuc n) p = p

-- what the test x < 0 says
pub clamp_neg : (z : ℤ) → lt_z z (pos 0) ≡ true → clamp z ≡ 0
unfolding clamp
clamp_neg (pos n) t = absurd (not-suc-le-zero (ltb-true n 0 t))
clamp_neg (negsuc n) t = refl

pub clamp_not : (z : ℤ) → lt_z z (pos 0) ≡ false → clamp z ≡ nat_abs z
unfolding clamp
clamp_not (pos n) t = refl
clamp_not (negsuc n) t = absurd (true≢false t)

pub non_neg_not : (z : ℤ) → lt_z z (pos 0) ≡ false → T (non_neg z)
non_neg_not (pos n) t = tt
non_neg_not (negsuc n) t = absurd (true≢false t)

pub nat_abs_mag : (z : ℤ) → nat_abs z ≤ mag z + 1
nat_abs_mag (pos n) = omega arith
nat_abs_mag (negsuc n) = omega arith

-- the machine's test against 0
pub zero_bits : (z : ℤ) → mag z < 2 ^ 31 → eqb (of_z w32 z) 0 ≡ is_zero z
unfolding is_zero
zero_bits (pos n) h = refl
zero_bits (negsuc n) h = ne_eqb (2 ^ 32 - suc n) 0 (λ e. omega arith)

pub clamp_top : (a : ℤ) (k : ℕ) → le_z a (pos k) ≡ true → clamp a ≤ k
unfolding clamp
clamp_top (pos n) k h = leb-true n k h
clamp_top (negsuc n) k h = omega arith

-- what counts of an event is no more than what was moved up
pub event_clamp : (a : ℤ) (b c k : ℕ) → clamp a ≤ k → clamp (event_wh a b c) ≤ k
unfolding event_wh clamp
event_clamp a b c k p = go (eqb c 1) a p
  where
    below : (n : ℕ) (t : Bool) → ltb n b ≡ t → n ≤ k → clamp (cond t (pos n) (pos b)) ≤ k
    below n true e p = p
    below n false e p = omega (arith, ltb-false n b e)

    go : (t : Bool) (a : ℤ) → clamp a ≤ k → clamp (cond t (pos 0) (cond (lt_z a (pos b)) a (pos b))) ≤ k
    go true a p = omega arith
    go false (pos n) p = below n (ltb n b) refl p
    go false (negsuc n) p = omega arith

clamp_sub : (a b : ℕ) → clamp (sub_ℕ a b) ≤ a
unfolding clamp
clamp_sub a b = go (ltb a b)
  where
    go : (t : Bool) → clamp (cond t (negsuc (b - suc a)) (pos (a - b))) ≤ a
    go true = omega arith
    go false = omega arith

pub clamp_plus : (x y : ℤ) → clamp (x +ℤ y) ≤ clamp x + clamp y
unfolding clamp
clamp_plus (pos a) (pos b) = omega arith
clamp_plus (pos a) (negsuc b) = omega (arith, clamp_sub a (suc b))
clamp_plus (negsuc a) (pos b) = omega (arith, clamp_sub b (suc a))
clamp_plus (negsuc a) (negsuc b) = omega arith

-- the machine's reading of a number that fits is the number, of 32 bits, of 64, and widened
pub back32 : (z : ℤ) → mag z < 2 ^ 31 → to_z w32 (of_z w32 z) ≡ z
back32 z h = to_z-of_z w32 z (record { sfits = h })

pub back64 : (z : ℤ) → mag z < 2 ^ 63 → to_z w64 (of_z w64 z) ≡ z
back64 z h = to_z-of_z w64 z (record { sfits = h })

pub widened : (z : ℤ) → mag z < 2 ^ 31 → to_z w64 (of_z w64 (to_z w32 (of_z w32 z))) ≡ z
widened z h = rw (back32 z h) (back64 z (omega arith))

pub wide_fits : (z : ℤ) → mag z < 2 ^ 31 → SFits w64 (to_z w32 (of_z w32 z))
wide_fits z h = rw (back32 z h) (record { sfits = omega arith })
