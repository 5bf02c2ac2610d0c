use Rattle.tabs.proofs.Making.{Putting}
use Rattle.tabs.proofs.walk.put_tabs.Given as goal

abbrev pub invariant-loop-member : goal.invariant-loop-member
invariant-loop-member l = Putting l.b l.initial.page l.member l.at l.page
