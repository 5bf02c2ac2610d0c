use mathlib.Core.Path.{◌≡◌}
use Prim.Native.Nat.{◌+◌}
use lib.ListN.{drop}
use Rattle.share.specs.Sharing.{compensated, assessed}
use Rattle.share_bytes.specs.Inner.{spelt_lines}
use Rattle.share_bytes.proofs.sums_at.Given as goal

abbrev pub invariant-loop-i : goal.invariant-loop-i
invariant-loop-i l =
    (l.c + compensated (drop l.i (spelt_lines l.s l.count)) ≡ compensated (spelt_lines l.s l.count))
    × (l.a + assessed (drop l.i (spelt_lines l.s l.count)) ≡ assessed (spelt_lines l.s l.count))
