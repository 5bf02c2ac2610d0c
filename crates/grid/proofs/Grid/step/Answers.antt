use Rattle.grid.proofs.Steps.{follows_on}
use Rattle.grid.proofs.Grid.step.Goals as goal

pub returns-then-is_digit : goal.returns-then-is_digit
returns-then-is_digit c = c.after_run.ensures c.args.ended.now

pub returns : goal.returns
returns c = let a = c.args in
    follows_on a.text.now a.i a.self a.ended.now c.other-grid.result _ c.requires.i_in_bounds c.requires.fact c.other-grid.ensures
