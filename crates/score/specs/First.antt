-- The first of several in turn. Assumes nothing.
use Rattle.std.specs.Prelude.{Bool, false, cond, ◌||◌, ℕ, zero, suc, eqb, ltb}

-- the first number below n at which v is not 0, or n
unfoldable pub first_nonzero : (ℕ → ℕ) → ℕ → ℕ
first_nonzero v zero = 0
first_nonzero v (suc n) = cond (ltb (first_nonzero v n) n) (first_nonzero v n) (cond (eqb (v n) 0) (suc n) n)

-- f holds at some number below n
unfoldable pub any_below : (ℕ → Bool) → ℕ → Bool
any_below f zero = false
any_below f (suc n) = any_below f n || f n
