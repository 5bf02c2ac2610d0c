use mathlib.Core.Path.{refl, ap}
use native.Mathlib.Omega.{arith}
use lib.Seq.{take_all}
use Rattle.share.specs.Forms.{blank_line}
use Rattle.render.proofs.Placed.{looser, same_put}
use Rattle.text.specs.Texts.{lines_text}
use Rattle.text.proofs.Statements.{lines_none, lines_more}
use Rattle.text.proofs.sharing.put_lines.Goals as goal

pub loop-line-init : goal.loop-line-init
loop-line-init c = let a = c.args in (refl, lines_none a.lines.now a.out.now a.at)

pub loop-line-preserved : goal.loop-line-preserved
loop-line-preserved c =
    let l = c.loop-line in
    let a = c.args in
    (omega arith, lines_more a.lines.now l.line-index blank_line (omega arith) l.invariant.1 c.put_line-next.ensures)

pub returns : goal.returns
returns c =
    let l = c.loop-line in
    let a = c.args in
    looser _ (omega arith) (same_put (ap lines_text (take_all l.line-index a.lines.now (omega arith))) l.invariant.1)
