use mathlib.Core.Path.{◌≡◌, sym, ◌∙◌}
use native.Mathlib.Omega.{arith}
use lib.ListN.{length, length-set, length-map, length-replicate}
use Rattle.apportion.proofs.Loops.{over_step}
use Rattle.share.specs.Forms.{blank_line}
use Rattle.share.proofs.Lists.{get_d_mapped}
use Rattle.fitting.specs.Fitting.{own_line, own_lines}
use borrow.Author.Rules.{rules}
use Rattle.fitting.proofs.own.own_lines.Goals as goal

pub loop-i-preserved : goal.loop-i-preserved
loop-i-preserved c =
    let l = c.loop-i in
    let a = c.args in
    let rows = a.rows in
    let long : length rows ≡ 64 = search rules in
    let blank = c.blank_lines-lines.result in
    let long₂ : length blank ≡ 64 = rw c.blank_lines-lines.ensures (length-replicate 64 blank_line) in
    let long₃ = length-map rows (own_line a.negative) in
    let v = get_d_mapped (own_line a.negative) rows l.i _ blank_line (omega arith) ∙ sym c.own_line.ensures in
    (simp length-set l.invariant.0, over_step blank (own_lines a.negative rows) l.lines l.i blank_line c.own_line.result l.invariant.1 (omega arith) (omega (arith, long₃)) v)
