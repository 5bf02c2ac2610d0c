use mathlib.Core.Path.{sym, ◌∙◌}
use Rattle.fitting.proofs.Cases.{total_fits, total_not}
use Rattle.fitting.proofs.total_apart.Goals as goal

pub returns-then-is_same : goal.returns-then-is_same
returns-then-is_same c = let a = c.args in total_fits a.s a.follows.0 (sym c.is_same.ensures ∙ c.if-is_same.true)

pub returns : goal.returns
returns c = let a = c.args in total_not a.s a.follows.0 (sym c.is_same.ensures ∙ c.if-is_same.false)
