use Rattle.apportion.specs.Ties.{UnitsGiven}
use Rattle.apportion.proofs.InTurn.{Serving}
use Rattle.apportion.proofs.ties.give_equal.Given as goal

abbrev pub invariant-loop-i : goal.invariant-loop-i
invariant-loop-i l = UnitsGiven l.left l.initial.rests l.initial.shares l.k l.rests l.shares × Serving l.most l.rests l.k l.i
