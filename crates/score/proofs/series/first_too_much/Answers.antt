use Rattle.score.proofs.Turns.{much_yes, much_not}
use native.Mathlib.Omega.{arith}
use mathlib.Core.Path.{◌≡◌, sym}
use lib.ListN.{length}
use Rattle.score.proofs.First.{first_none, first_more, first_hit}
use Rattle.score.specs.Series.{too_much, first_too_much}
use Rattle.score.proofs.series.first_too_much.Goals as goal

pub loop-i-init : goal.loop-i-init
loop-i-init c = first_none _

pub returns-then-output-gt-MOST_OUTPUT : goal.returns-then-output-gt-MOST_OUTPUT
unfolding first_too_much
returns-then-output-gt-MOST_OUTPUT c =
    let l = c.loop-i in
    let s = c.args.series.now in
    sym (first_hit (too_much s) l.i (length s) (omega arith) l.invariant (much_yes s l.i c.if-output-gt-MOST_OUTPUT.true))

pub loop-i-preserved : goal.loop-i-preserved
loop-i-preserved c =
    let l = c.loop-i in
    let s = c.args.series.now in
    first_more (too_much s) l.i l.invariant (much_not s l.i c.if-output-gt-MOST_OUTPUT.false)

pub returns : goal.returns
unfolding first_too_much
returns c =
    let l = c.loop-i in
    let e : l.i ≡ length c.args.series.now = omega arith in
    rw (← e) (sym l.invariant)
