use Prim.Native.Nat.{◌-◌}
use lib.ListN.{length}
use Rattle.tabs.proofs.Bringing.{InMember}
use Rattle.tabs.proofs.forward.count_member.Given as goal

abbrev pub invariant-loop-page : goal.invariant-loop-page
invariant-loop-page l = InMember l.first l.second l.initial.page l.member l.end l.from l.a l.b l.page

abbrev pub decreases-loop-page : goal.decreases-loop-page
decreases-loop-page l = length l.second - l.b
