use mathlib.Core.Path.{sym, ◌∙◌}
use borrow.Author.Tests.{eq-eqb, ne_eqb}
use Rattle.wish.specs.declared.Wish.TheVariants.{Enter, Revise, Withdraw}
use Rattle.wish.specs.Wish.{by_wish}
use Rattle.wish.proofs.Cases.{over_gone, over_else}
use Rattle.wish.proofs.over.Goals as goal

pub returns-then-y-eq-WITHDRAWN : goal.returns-then-y-eq-WITHDRAWN
returns-then-y-eq-WITHDRAWN c = sym (over_gone _ _ _ (eq-eqb _ _ c.if-y-eq-WITHDRAWN.true))

pub returns-in-Enter : goal.returns-in-Enter
unfolding by_wish
returns-in-Enter c = rw c.in-Enter.is (sym (over_else Enter _ _ (ne_eqb _ _ c.if-y-eq-WITHDRAWN.false)))

pub returns-in-Revise : goal.returns-in-Revise
unfolding by_wish
returns-in-Revise c = rw c.in-Revise.is (c.higher.ensures ∙ sym (over_else Revise _ _ (ne_eqb _ _ c.if-y-eq-WITHDRAWN.false)))

pub returns-in-Withdraw : goal.returns-in-Withdraw
unfolding by_wish
returns-in-Withdraw c = rw c.in-Withdraw.is (sym (over_else Withdraw _ _ (ne_eqb _ _ c.if-y-eq-WITHDRAWN.false)))
