use Rattle.month.proofs.Walking.{turn_ramping, turn_both}
use Rattle.month.proofs.members.with_ramping.Goals as goal

pub returns-then-number-ne0 : goal.returns-then-number-ne0
returns-then-number-ne0 c = turn_ramping _ _ c.if-number-ne0.true

pub returns : goal.returns
returns c = turn_both _ _ _ c.if-number-ne0.false c.plus-sum.ensures
