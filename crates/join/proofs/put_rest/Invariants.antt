use Prim.Native.Nat.{◌-◌}
use Rattle.join.proofs.Taken.{Rest}
use Rattle.join.proofs.put_rest.Given as goal

abbrev pub invariant-loop-a : goal.invariant-loop-a
invariant-loop-a l = Rest l.s l.from l.initial.out l.before l.a l.out l.turns

abbrev pub decreases-loop-a : goal.decreases-loop-a
decreases-loop-a l = l.e - l.a
