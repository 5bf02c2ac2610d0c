use mathlib.Core.Path.{sym, ◌∙◌}
use native.Mathlib.Omega.{arith}
use Rattle.grid.proofs.Runs.{one_more}
use Rattle.grid.proofs.cell.run_from.Goals as goal

pub loop-end-preserved : goal.loop-end-preserved
loop-end-preserved c = let l = c.loop-end in
    let a = c.args in
    one_more a.text.now a.i a.v l.end l.value c.grown-value.result (omega arith) (sym c.is_digit.ensures ∙ c.if-not-is_digit.false)
    c.grown-value.ensures l.invariant
