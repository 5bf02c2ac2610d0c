use mathlib.Core.Path.{◌≡◌}
use Prim.Native.Nat.{◌+◌}
use lib.ListN.{drop}
use Rattle.share.specs.Sharing.{first_bad_line}
use Rattle.share.proofs.settle.first_bad_line.Given as goal

abbrev pub invariant-loop-i : goal.invariant-loop-i
invariant-loop-i l = l.i + first_bad_line l.before (drop l.i l.lines) ≡ first_bad_line 0 l.lines
