use Rattle.tabs.proofs.Retabbing.{Tabbing}
use Rattle.tabs.proofs.counts.set_tabs.Given as goal

abbrev pub invariant-loop-member : goal.invariant-loop-member
invariant-loop-member l = Tabbing l.initial.page l.all l.member l.below l.page
