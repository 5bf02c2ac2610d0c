use mathlib.Core.Path.{◌≡◌}
use Prim.Native.Nat.{◌+◌}
use lib.ListN.{drop}
use Rattle.fitting.specs.Fitting.{first_own}
use Rattle.fitting.proofs.own.first_own.Given as goal

abbrev pub invariant-loop-i : goal.invariant-loop-i
invariant-loop-i l = first_own l.negative (1 + l.i) (drop l.i l.rows) ≡ first_own l.negative 1 l.rows
