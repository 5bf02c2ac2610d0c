use borrow.Author.Tests.{lt-ltb, le-ltb, eq-eqb, ne_eqb}
use Rattle.drawer.specs.Stale.{why_not}
use Rattle.drawer.proofs.stale.why_not.Goals as goal

pub returns-then-y-x : goal.returns-then-y-x
unfolding why_not
returns-then-y-x c = simp c.if-y-x.true

pub returns-then-x-y : goal.returns-then-x-y
unfolding why_not
returns-then-x-y c = simp (c.if-y-x.false, lt-ltb _ _ c.if-x-y.true)

pub returns-then-y-eq-CONTESTED : goal.returns-then-y-eq-CONTESTED
unfolding why_not
returns-then-y-eq-CONTESTED c = simp (c.if-y-x.false, le-ltb _ _ c.if-x-y.false, eq-eqb _ _ c.if-y-eq-CONTESTED.true)

pub returns : goal.returns
unfolding why_not
returns c = simp (c.if-y-x.false, le-ltb _ _ c.if-x-y.false, ne_eqb _ _ c.if-y-eq-CONTESTED.false)
