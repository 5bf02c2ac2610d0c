use Rattle.tabs.proofs.Making.{Fitting}
use Rattle.tabs.proofs.walk.first_unfit.Given as goal

abbrev pub invariant-loop-member : goal.invariant-loop-member
invariant-loop-member l = Fitting l.page l.b l.member l.at
