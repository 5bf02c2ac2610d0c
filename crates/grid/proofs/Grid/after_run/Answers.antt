use Rattle.grid.proofs.Steps.{runs}
use Rattle.grid.proofs.Grid.after_run.Goals as goal

pub returns : goal.returns
returns c = let a = c.args in
    runs a.self c.opened-open.result a.text.now a.i c.so_far.result c.requires.i_in_bounds c.requires.i_value
    c.opened-open.ensures c.so_far.ensures
    c.run_from-run.result c.digits.result c.run_from-run.ensures c.digits.ensures
