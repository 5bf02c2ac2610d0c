use mathlib.Core.Path.{◌≡◌}
use Prim.Native.Nat.{◌+◌}
use lib.ListN.{drop}
use Rattle.ceiling.specs.Ceiling.{first_bad_limited}
use Rattle.ceiling.proofs.array.first_bad_limited.Given as goal

abbrev pub invariant-loop-i : goal.invariant-loop-i
invariant-loop-i l = l.i + first_bad_limited l.before (drop l.i l.lines) ≡ first_bad_limited 0 l.lines
