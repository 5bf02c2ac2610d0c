use Prim.Native.Nat.{◌-◌}
use Rattle.call.specs.Layout.{call_at}
use Rattle.tabs.proofs.Bringing.{Seeks}
use Rattle.tabs.proofs.forward.find_from.Given as goal

abbrev pub invariant-loop-at : goal.invariant-loop-at
invariant-loop-at l = Seeks l.first l.from l.end (call_at l.second l.b) l.at

abbrev pub decreases-loop-at : goal.decreases-loop-at
decreases-loop-at l = l.end - l.at
