-- Service 8 of synchronous units and new storage (004, article 14 (1)): signed energy over the month. Assumes nothing.
use Rattle.std.specs.Prelude.{cond, ℕ, ◌*◌, ℤ, pos, negsuc, eqb}
use Rattle.std.specs.Int.Signed.{lt_z}

-- a, energy moved in Wh, counts as the smaller of a and b, or 0 if c = 1
unfoldable pub event_wh : ℤ → ℕ → ℕ → ℤ
event_wh a b c = cond (eqb c 1) (pos 0) (cond (lt_z a (pos b)) a (pos b))

-- what is below zero counts as zero
unfoldable pub clamp : ℤ → ℕ
clamp (pos n) = n
clamp (negsuc n) = 0

-- 2: the power that a reserve call goes up to
abbrev pub called_up : ℤ → ℕ
called_up a = clamp a

-- the month's sum times 120,000, 200 points per 万千瓦时; a sum below zero pays 0 (house rule)
unfoldable pub energy_pay : ℤ → ℕ
energy_pay z = clamp z * 120000
