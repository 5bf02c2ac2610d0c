-- Signed amounts: sums, limits either way, and the machine's tests. Assumes nothing.
use mathlib.Core.Path.{◌≡◌, refl, sym, ◌∙◌, ap}
use mathlib.Core.Bool.{Bool, true, false, cond, ◌&&◌}
use mathlib.Core.List.{List, [], ◌∷◌, ◌++◌}
use Prim.Native.Nat.{ℕ, zero, suc, ◌+◌, ◌-◌, ◌^◌, ◌≤◌}
use native.Mathlib.Omega.{arith}
use borrow.Author.Tests.{ltb-true, ne_eqb}
use lib.Dec.{leb, ltb, eqb, leb-zero, leb-suc-zero, leb-suc-suc}
use lib.IntN.{ℤ, pos, negsuc, neg_ℤ, sub_ℕ, nat_abs, ◌+ℤ◌, +ℤ_idl, +ℤ_idr, +ℤ_assoc}
use lib.Signed.{le_z}
use mir.Syntax.{w64}
use mir.Val.{SFits, to_z, of_z}
use mir.ValLaws.{to_z-of_z}
use Rattle.share.proofs.Signs.{small_fits}
use Rattle.year.specs.Year.{sumℤ}
use Rattle.year.specs.Inner.{most_sum}

and_true : (t : Bool) → (t && true) ≡ t
and_true true = refl
and_true false = refl

-- the two tests of a limit either way
pub either_way : (m : ℕ) (z : ℤ) → (le_z (neg_ℤ (pos m)) z && le_z z (pos m)) ≡ leb (nat_abs z) m
either_way zero (pos n) = rw (leb-zero n)
either_way zero (negsuc n) = sym (leb-suc-zero n)
either_way (suc m) (pos n) = refl
either_way (suc m) (negsuc n) = and_true (leb n m) ∙ sym (leb-suc-suc n m)

abs_sub : (a b : ℕ) → nat_abs (sub_ℕ a b) ≤ a + b
abs_sub a b = go (ltb a b) refl
  where
    go : (t : Bool) → ltb a b ≡ t → nat_abs (cond t (negsuc (b - suc a)) (pos (a - b))) ≤ a + b
    go true e = omega (arith, ltb-true a b e)
    go false e = omega arith

pub abs_plus : (x y : ℤ) → nat_abs (x +ℤ y) ≤ nat_abs x + nat_abs y
abs_plus (pos a) (pos b) = omega arith
abs_plus (pos a) (negsuc b) = omega (arith, abs_sub a (suc b))
abs_plus (negsuc a) (pos b) = omega (arith, abs_sub b (suc a))
abs_plus (negsuc a) (negsuc b) = omega arith

-- a sum that is far from the ends of 64 bits, there and back
pub sum_fits : (z : ℤ) → nat_abs z ≤ most_sum + most_sum → SFits w64 z
sum_fits z h = small_fits z (most_sum + most_sum) h (omega arith)

pub sum_back : (z : ℤ) → nat_abs z ≤ most_sum + most_sum → to_z w64 (of_z w64 z) ≡ z
sum_back z h = to_z-of_z w64 z (sum_fits z h)

-- the machine's test against 0
pub zero_bits : (z : ℤ) → nat_abs z ≤ most_sum + most_sum → eqb (of_z w64 z) 0 ≡ eqb (nat_abs z) 0
zero_bits (pos n) h = refl
zero_bits (negsuc n) h = ne_eqb (2 ^ 64 - suc n) 0 (λ e. omega arith) ∙ sym (ne_eqb (suc n) 0 (λ e. omega arith))

-- Sums

pub sum_behind : (xs ys : List ℤ) → sumℤ (xs ++ ys) ≡ sumℤ xs +ℤ sumℤ ys
unfolding sumℤ
sum_behind [] ys = sym (+ℤ_idl (sumℤ ys))
sum_behind (x ∷ xs) ys = ap (λ (z : ℤ). x +ℤ z) (sum_behind xs ys) ∙ sym (+ℤ_assoc x (sumℤ xs) (sumℤ ys))

pub sum_more : (xs : List ℤ) (z : ℤ) → sumℤ (xs ++ z ∷ []) ≡ sumℤ xs +ℤ z
unfolding sumℤ
sum_more xs z = sum_behind xs (z ∷ []) ∙ ap (λ (y : ℤ). sumℤ xs +ℤ y) (+ℤ_idr z)
