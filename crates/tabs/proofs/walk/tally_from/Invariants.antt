use Prim.Native.Nat.{◌-◌}
use lib.ListN.{length}
use Rattle.tabs.proofs.Walking.{Tallying}
use Rattle.tabs.proofs.walk.tally_from.Given as goal

abbrev pub invariant-loop-t : goal.invariant-loop-t
invariant-loop-t l = Tallying l.b l.member l.at l.t l.a

abbrev pub decreases-loop-t : goal.decreases-loop-t
decreases-loop-t l = length l.b - l.a
