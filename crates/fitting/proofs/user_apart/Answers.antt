use mathlib.Core.Path.{sym, ◌∙◌}
use Rattle.fitting.proofs.Cases.{user_fits, user_not}
use Rattle.fitting.proofs.user_apart.Goals as goal

pub returns-then-is_same : goal.returns-then-is_same
returns-then-is_same c = let a = c.args in user_fits a.s a.follows.0 (sym c.is_same.ensures ∙ c.if-is_same.true)

pub returns : goal.returns
returns c = let a = c.args in user_not a.s a.follows.0 (sym c.is_same.ensures ∙ c.if-is_same.false)
