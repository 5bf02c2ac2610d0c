use mathlib.Core.Path.{◌≡◌}
use Prim.Native.Nat.{◌+◌}
use lib.ListN.{drop}
use Rattle.intake.specs.Limits.{first_beyond}
use Rattle.intake.proofs.limits.first_beyond.Given as goal

abbrev pub invariant-loop-i : goal.invariant-loop-i
invariant-loop-i l = l.i + first_beyond l.before (drop l.i l.rows) ≡ first_beyond 0 l.rows
