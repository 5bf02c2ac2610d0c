-- What is paid and what is got, and sums that fit. Assumes nothing.
use mathlib.Core.Path.{◌≡◌, refl, sym}
use mathlib.Core.Bool.{Bool, true, false, cond}
use Prim.Native.Nat.{ℕ, zero, suc, ◌+◌, ◌-◌, ◌≤◌}
use native.Mathlib.Omega.{arith}
use borrow.Author.Tests.{le-ltb, lt-ltb}
use lib.IntN.{ℤ, pos, negsuc, nat_abs, ◌+ℤ◌, +ℤ_comm}
use lib.Signed.{lt_z}
use mir.Syntax.{Width}
use mir.Val.{SFits, to_z, of_z}
use mir.ValLaws.{to_z-of_z}
use Rattle.share.proofs.Signs.{abs_most}
use Rattle.ceiling.specs.declared.Limit.{Limit}
use Rattle.ceiling.specs.Ceiling.{paid, beyond, positive}

pub abs_plus : (z : ℤ) (u : ℕ) → nat_abs (z +ℤ pos u) ≤ nat_abs z + u
abs_plus (pos n) u = omega arith
abs_plus (negsuc n) u = rw (+ℤ_comm (negsuc n) (pos u)) (abs_most u (suc n) (suc n + u) (omega arith) (omega arith))

-- what is paid and what is got, by the test
paid_yes : (z : ℤ) → lt_z z (pos 0) ≡ true → nat_abs z ≡ paid z
unfolding paid
paid_yes z t = rw t

paid_no : (z : ℤ) → lt_z z (pos 0) ≡ false → 0 ≡ paid z
unfolding paid
paid_no z t = rw t

not_below : (z : ℤ) → lt_z (pos 0) z ≡ true → lt_z z (pos 0) ≡ false
not_below (pos n) t = le-ltb n 0 (omega arith)
not_below (negsuc n) t = sym t

-- an amount of some width, which comes through its bits
module _ (w : Width) (z : ℤ) (f : SFits w z) where
  same : to_z w (of_z w z) ≡ z
  same = to_z-of_z w z f

  pub paid_some : lt_z (to_z w (of_z w z)) (pos 0) ≡ true → nat_abs z ≡ paid z
  paid_some t = paid_yes z (rw same at t)

  pub paid_none : lt_z (to_z w (of_z w z)) (pos 0) ≡ false → 0 ≡ paid z
  paid_none t = paid_no z (rw same at t)

-- none is more than the amount without its sign
pub paid_le : (z : ℤ) → paid z ≤ nat_abs z
unfolding paid
paid_le z = go (lt_z z (pos 0))
  where
    go : (b : Bool) → cond b (nat_abs z) 0 ≤ nat_abs z
    go true = omega arith
    go false = omega arith

pub positive_le : (z : ℤ) → positive z ≤ nat_abs z
unfolding positive
positive_le z = go (lt_z (pos 0) z)
  where
    go : (b : Bool) → cond b (nat_abs z) 0 ≤ nat_abs z
    go true = omega arith
    go false = omega arith

pub beyond_paid : (l : Limit) (z : ℤ) → beyond l z ≤ paid z
unfolding beyond
beyond_paid l z = go l.none
  where
    go : (b : Bool) → cond b 0 (paid z - l.fen.0) ≤ paid z
    go true = omega arith
    go false = omega arith

pub beyond_le : (l : Limit) (z : ℤ) → beyond l z ≤ nat_abs z
beyond_le l z = omega (arith, beyond_paid l z, paid_le z)

-- what lies beyond, by the tests
pub beyond_unlimited : (l : Limit) (z : ℤ) → l.none ≡ true → 0 ≡ beyond l z
unfolding beyond
beyond_unlimited l z t = rw t

pub beyond_is : (l : Limit) (z : ℤ) (n : ℕ) → l.none ≡ false → n ≡ paid z - l.fen.0 → n ≡ beyond l z
unfolding beyond
beyond_is l z n t e = rw t e

-- what a number above or below zero pays and gets
pub paid_pos : (n : ℕ) → paid (pos n) ≡ 0
unfolding paid
paid_pos n = rw (le-ltb n 0 (omega arith))

pub paid_neg : (n : ℕ) → paid (negsuc n) ≡ suc n
unfolding paid
paid_neg n = refl

pub positive_neg : (n : ℕ) → positive (negsuc n) ≡ 0
unfolding positive
positive_neg n = refl

pub positive_pos : (n : ℕ) → positive (pos n) ≡ n
unfolding positive
positive_pos zero = refl
positive_pos (suc n) = rw (lt-ltb 0 (suc n) (omega arith))
