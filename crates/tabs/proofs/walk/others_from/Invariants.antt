use Prim.Native.Nat.{◌-◌}
use Rattle.tabs.proofs.Stretches.{Counting}
use Rattle.tabs.proofs.walk.others_from.Given as goal

abbrev pub invariant-loop-a : goal.invariant-loop-a
invariant-loop-a l = Counting l.b l.at l.end l.t l.a

abbrev pub decreases-loop-a : goal.decreases-loop-a
decreases-loop-a l = l.end - l.a
