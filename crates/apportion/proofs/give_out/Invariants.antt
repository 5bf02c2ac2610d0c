use Rattle.apportion.specs.Ties.{UnitsGiven}
use Rattle.apportion.proofs.give_out.Given as goal

abbrev pub invariant-loop-k : goal.invariant-loop-k
invariant-loop-k l = UnitsGiven l.left l.initial.rests l.initial.shares l.k l.rests l.shares

abbrev pub decreases-loop-k : goal.decreases-loop-k
decreases-loop-k l = l.k
