use Rattle.form.specs.Inner.{Plain}
use Rattle.form.proofs.walk.past_ones.Given as goal

abbrev pub invariant-loop-i : goal.invariant-loop-i
invariant-loop-i l = Plain l.form l.from l.i
