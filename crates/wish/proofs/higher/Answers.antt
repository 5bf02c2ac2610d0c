use mathlib.Core.Path.{sym}
use Rattle.wish.proofs.Cases.{higher_yes, higher_no}
use Rattle.wish.proofs.higher.Goals as goal

pub returns-then-y-x : goal.returns-then-y-x
returns-then-y-x c = sym (higher_yes _ _ c.if-y-x.true)

pub returns : goal.returns
returns c = sym (higher_no _ _ c.if-y-x.false)
