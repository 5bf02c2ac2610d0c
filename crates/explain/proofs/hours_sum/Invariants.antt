use Rattle.explain.proofs.Hours.{Turn}
use Rattle.explain.proofs.hours_sum.Given as goal

abbrev pub invariant-loop-hour : goal.invariant-loop-hour
invariant-loop-hour l = Turn l.hour-items l.sum.0 l.hour-index
