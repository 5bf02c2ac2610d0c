use mathlib.Core.Path.{sym, ◌∙◌}
use Rattle.grid.proofs.Steps.{opens, begins}
use Rattle.grid.proofs.Grid.other.Goals as goal

pub returns-then-marks : goal.returns-then-marks
returns-then-marks c = let o = c.opened-open in
    opens c.args.self o.result c.args.b c.requires.b_value.1 o.ensures c.marked.result c.args.ended.now c.args.ended.now (c.marked.ensures c.args.ended.now)

pub returns : goal.returns
returns c = let o = c.opened-open in
    begins c.args.self o.result c.args.b c.requires.b_value.1 o.ensures c.begun-begun.result c.typed.result
    c.args.ended.now _ c.begun-begun.ensures
    (sym c.marks.ensures ∙ c.if-marks.false) c.typed.ensures
