use native.Mathlib.Omega.{arith}
use Rattle.explain.proofs.Hours.{turn_start, turn_on, turn_end}
use Rattle.explain.proofs.hours_sum.Goals as goal

pub loop-hour-init : goal.loop-hour-init
loop-hour-init c = turn_start _

pub loop-hour-preserved : goal.loop-hour-preserved
loop-hour-preserved c =
    let l = c.loop-hour in
    turn_on c.args.hours l.sum.0 l.hour-index c.plus-sum.result.0 l.invariant (omega arith) c.plus-sum.ensures

pub returns : goal.returns
returns c =
    let l = c.loop-hour in
    turn_end c.args.hours l.sum.0 l.hour-index l.invariant (omega arith)
