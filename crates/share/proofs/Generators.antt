-- The generators' R. Assumes nothing.
use mathlib.Core.List.{List}
use Prim.Native.Nat.{ℕ, ◌*◌, ◌/◌, ◌≤◌}
use native.Mathlib.Nat.{mul-le-mul_left, div-le_of_le-mul}
use native.Mathlib.Omega.{arith}
use lib.IntN.{nat_abs}
use Rattle.share.specs.declared.Line.{Line}
use Rattle.share.specs.Sharing.{gap, generators_amount, most_part}

-- a part of at most the whole is at most the whole
pub cut_le : (n part : ℕ) → part ≤ most_part → n * part / most_part ≤ n
cut_le n part h = div-le_of_le-mul most_part (omega (arith, mul-le-mul_left n h))

pub generators_le : (part : ℕ) (ls : List Line) → part ≤ most_part → generators_amount part ls ≤ nat_abs (gap ls)
unfolding generators_amount
generators_le part ls h = cut_le (nat_abs (gap ls)) part h
