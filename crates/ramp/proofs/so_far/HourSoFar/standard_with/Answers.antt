use borrow.Author.Tests.{eq-eqb, ne_eqb}
use Rattle.ramp.specs.Inner.{standard_with}
use Rattle.ramp.proofs.so_far.HourSoFar.standard_with.Goals as goal

pub returns-then-self-eq0 : goal.returns-then-self-eq0
unfolding standard_with
returns-then-self-eq0 c = rw (eq-eqb c.args.self.count 0 c.if-self-eq0.true)

pub returns : goal.returns
unfolding standard_with
returns c = rw (ne_eqb c.args.self.count 0 c.if-self-eq0.false)
