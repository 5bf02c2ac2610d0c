use mathlib.Core.Path.{◌≡◌, sym, ◌∙◌}
use native.Mathlib.Omega.{arith}
use borrow.Author.Rules.{rules}
use lib.ListN.{length, length-set, length-map, length-replicate}
use Rattle.apportion.proofs.Loops.{over_step}
use Rattle.share.proofs.Lists.{get_d_mapped}
use Rattle.year.specs.Verdict.{blank_line}
use Rattle.intake.specs.Intake.{year_line, year_lines}
use Rattle.intake.proofs.lines.year_lines.Goals as goal

pub loop-i-preserved : goal.loop-i-preserved
loop-i-preserved c =
    let l = c.loop-i in
    let rows = c.args.rows in
    let long : length rows ≡ 64 = search rules in
    let blank = c.blank_lines-lines.result in
    let long₂ : length blank ≡ 64 = rw c.blank_lines-lines.ensures (length-replicate 64 blank_line) in
    let long₃ = length-map rows year_line in
    let v = get_d_mapped year_line rows l.i _ blank_line (omega arith) ∙ sym c.year_line.ensures in
    (simp length-set l.invariant.0, over_step blank (year_lines rows) l.lines l.i blank_line c.year_line.result l.invariant.1 (omega arith) (omega (arith, long₃)) v)
