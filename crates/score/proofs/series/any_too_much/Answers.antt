use native.Mathlib.Omega.{arith}
use mathlib.Core.Path.{◌≡◌}
use lib.ListN.{length}
use Rattle.score.specs.Series.{first_too_much}
use Rattle.score.proofs.First.{first_none}
use Rattle.score.proofs.Turns.{much_none}
use Rattle.score.proofs.series.any_too_much.Goals as goal

pub loop-output-init : goal.loop-output-init
loop-output-init c = λ z. first_none _

pub loop-output-preserved : goal.loop-output-preserved
loop-output-preserved c =
    let l = c.loop-output in
    much_none c.args.series.now l.output-index l.any l.invariant

pub returns : goal.returns
unfolding first_too_much
returns c =
    let l = c.loop-output in
    let e : l.output-index ≡ length c.args.series.now = omega arith in
    λ z. rw (← e) (l.invariant z)
