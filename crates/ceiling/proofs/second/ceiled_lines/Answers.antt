use mathlib.Core.Path.{◌≡◌, sym, ◌∙◌}
use native.Mathlib.Omega.{arith}
use lib.ListN.{length, get_or}
use Rattle.apportion.proofs.Loops.{over_step, over_here, over_end}
use Rattle.ceiling.specs.Forms.{ceiled_lines}
use Rattle.ceiling.specs.Inner.{blank_limited}
use Rattle.ceiling.proofs.Places.{got, got_at, length_ceiled}
use Rattle.ceiling.proofs.second.ceiled_lines.Goals as goal

pub loop-i-preserved : goal.loop-i-preserved
loop-i-preserved c =
    let l = c.loop-i in
    let a = c.args in
    let ls = a.lines.now in
    let f = ceiled_lines (got a.shared.now a.us.now a.gs.now) ls in
    let lf : length f ≡ length ls = length_ceiled (got a.shared.now a.us.now a.gs.now) ls in
    let here : get_or l.lines l.i blank_limited ≡ get_or ls l.i blank_limited = over_here ls f l.lines l.i blank_limited l.invariant (omega arith) (omega arith) in
    over_step ls f l.lines l.i blank_limited _ l.invariant (omega arith) (omega arith)
    (got_at ls a.shared.now a.us.now a.gs.now c.requires.each_shared c.requires.each_uncollected c.requires.each_given l.i (omega arith) ∙ rw (← here) (sym c.ceiled_line.ensures))

pub returns : goal.returns
returns c =
    let a = c.args in
    let ls = a.lines.now in
    over_end ls (ceiled_lines (got a.shared.now a.us.now a.gs.now) ls) _ c.loop-i.i c.loop-i.invariant
    (omega (arith, length_ceiled (got a.shared.now a.us.now a.gs.now) ls)) (omega arith)
