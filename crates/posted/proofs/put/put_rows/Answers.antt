use mathlib.Core.Path.{refl, ap, ◌∙◌}
use native.Mathlib.Omega.{arith}
use lib.Seq.{take_all}
use Rattle.month.specs.Settling.{blank_row}
use Rattle.render.proofs.Placed.{looser, same_put}
use Rattle.posted.specs.Posted.{rows_text}
use Rattle.posted.proofs.Posting.{rows_none, rows_more}
use Rattle.posted.proofs.put.put_rows.Goals as goal

pub loop-row-init : goal.loop-row-init
loop-row-init c = let a = c.args in (refl, rows_none a.rows.now a.out.now a.at)

pub loop-row-preserved : goal.loop-row-preserved
unfolding blank_row
loop-row-preserved c =
    let l = c.loop-row in
    let a = c.args in
    (c.put_row-next.auto.out ∙ l.invariant.0, rows_more a.rows.now l.row-index blank_row (omega arith) l.invariant.1 c.put_row-next.ensures)

pub returns : goal.returns
returns c =
    let l = c.loop-row in
    let a = c.args in
    looser _ (omega arith) (same_put (ap rows_text (take_all l.row-index a.rows.now (omega arith))) l.invariant.1)
