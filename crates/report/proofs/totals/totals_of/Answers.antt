use mathlib.Core.Path.{◌∙◌, ap}
use native.Mathlib.Omega.{arith}
use Rattle.month.specs.Settling.{blank_row}
use Rattle.report.specs.Totals.{with_row, totals_of}
use Rattle.report.proofs.Rows.{totals_none, totals_more}
use Rattle.report.proofs.totals.totals_of.Goals as goal

pub loop-row-init : goal.loop-row-init
loop-row-init c = c.no_lines-t.ensures ∙ totals_none c.args.rows.now

pub loop-row-preserved : goal.loop-row-preserved
unfolding blank_row with_row
loop-row-preserved c =
    let l = c.loop-row in
    totals_more c.args.rows.now l.row-index l.t c.with_line-t.result l.invariant c.with_line-t.ensures

pub returns : goal.returns
returns c = let l = c.loop-row in l.invariant ∙ ap (totals_of c.args.rows.now) (omega arith)
