use native.Mathlib.Omega.{arith}
use mathlib.Core.Path.{sym}
use Rattle.pay.proofs.Sums.{total_none, total0_step}
use Rattle.reckon.specs.Reckoning.{minute_at}
use Rattle.reckon.specs.Inner.{calls_at}
use Rattle.reckon.proofs.walk.minutes_walked.Goals as goal

pub loop-minute-init : goal.loop-minute-init
loop-minute-init c =
    let a = c.args in
    (sym (total_none (minute_at a.member a.series.now (calls_at a.b.now a.places.now)) 0), omega arith)

pub loop-minute-preserved : goal.loop-minute-preserved
loop-minute-preserved c =
    let l = c.loop-minute in
    let e = c.minute_at-pay.ensures in
    (total0_step _ l.minute l.invariant.0 e.0, omega arith)
