-- Quotient and remainder of a product. Assumes nothing.
use mathlib.Core.Path.{◌≡◌, sym, ap, ◌∙◌}
use Prim.Native.Nat.{ℕ, ◌+◌, ◌*◌, ◌/◌, ◌%◌, ◌≤◌}
use native.Mathlib.Nat.{mul-le-mul_left, le_of_mul-le-mul_right}
use native.Mathlib.Omega.{arith}
use lib.Arith.{digits_div, digits_mod}
use Rattle.product.specs.Product.{Parts}

-- The quotient and the remainder, once more.
pub parts_div : {x all q r : ℕ} → Parts x all q r → q ≡ x / all
parts_div {x} {all} {q} {r} p = sym (digits_div q p.small) ∙ ap (λ (y : ℕ). y / all) p.sum

pub parts_mod : {x all q r : ℕ} → Parts x all q r → r ≡ x % all
parts_mod {x} {all} {q} {r} p = sym (digits_mod q p.small) ∙ ap (λ (y : ℕ). y % all) p.sum

-- A quotient of n · w by no less than w is at most n.
pub parts_le : (n w : ℕ) {all q r : ℕ} → Parts (n * w) all q r → w ≤ all → q ≤ n
parts_le n w {all} {q} {r} p h =
    le_of_mul-le-mul_right {k = all} (omega (arith, p.sum, mul-le-mul_left n h)) (omega (arith, p.small))

-- A product on its way: n times S, of which D is done and n is left, goes on with half of n and twice S.
pub half_even : (n h S S' D : ℕ) → n ≡ h * 2 → S' ≡ S + S → D + h * S' ≡ D + n * S
half_even n h S S' D e s = omega (arith, ap (λ (x : ℕ). x * S) e, ap (λ (x : ℕ). h * x) s)

pub half_odd : (n h S S' D D' : ℕ) → n ≡ h * 2 + 1 → S' ≡ S + S → D' ≡ D + S → D' + h * S' ≡ D + n * S
half_odd n h S S' D D' e s d = omega (arith, ap (λ (x : ℕ). x * S) e, ap (λ (x : ℕ). h * x) s, d)
