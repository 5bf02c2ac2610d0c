use mathlib.Core.Path.{◌≡◌}
use Prim.Native.Nat.{◌+◌}
use lib.ListN.{drop}
use Rattle.share.specs.Sharing.{compensated, assessed}
use Rattle.share.proofs.settle.sums.Given as goal

abbrev pub invariant-loop-line : goal.invariant-loop-line
invariant-loop-line l =
    (l.c + compensated (drop l.line-index l.lines) ≡ compensated l.lines) × (l.a + assessed (drop l.line-index l.lines) ≡ assessed l.lines)
