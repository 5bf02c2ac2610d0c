use Rattle.apportion.proofs.Loops.{Ahead}
use Rattle.apportion.proofs.largest_at.Given as goal

abbrev pub invariant-loop-i : goal.invariant-loop-i
invariant-loop-i l = Ahead l.xs l.best l.i
