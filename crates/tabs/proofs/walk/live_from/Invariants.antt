use Prim.Native.Nat.{◌-◌}
use Rattle.tabs.specs.Inner.{LiveTo}
use Rattle.tabs.proofs.walk.live_from.Given as goal

abbrev pub invariant-loop-a : goal.invariant-loop-a
invariant-loop-a l = LiveTo l.b l.at l.end l.a

abbrev pub decreases-loop-a : goal.decreases-loop-a
decreases-loop-a l = l.end - l.a
