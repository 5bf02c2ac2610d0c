-- Sums over a run of indexes. Assumes nothing.
use Rattle.std.specs.Prelude.{ℕ, zero, suc, ◌+◌, ℤ, pos, ◌+ℤ◌}

-- f s + f (s + 1) + .. , n terms
unfoldable pub total : (ℕ → ℕ) → ℕ → ℕ → ℕ
total f s zero = 0
total f s (suc n) = total f s n + f (s + n)

-- f 0 + f 1 + .. , n terms, signed
unfoldable pub total_z : (ℕ → ℤ) → ℕ → ℤ
total_z f zero = pos 0
total_z f (suc n) = total_z f n +ℤ f n
