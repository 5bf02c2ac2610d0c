use Prim.Native.Nat.{◌+◌, ◌-◌}
use Rattle.join.proofs.Taken.{SoFar}
use Rattle.join.proofs.put_both.Given as goal

abbrev pub invariant-loop-a : goal.invariant-loop-a
invariant-loop-a l = SoFar l.first l.second l.initial.out l.a l.b l.out l.turns

abbrev pub decreases-loop-a : goal.decreases-loop-a
decreases-loop-a l = (l.e + l.f) - (l.a + l.b)
