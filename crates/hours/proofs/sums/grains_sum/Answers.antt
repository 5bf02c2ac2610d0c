use Rattle.std.proofs.Common.{ℕ, ◌+◌, drop, ap, ◌∙◌, arith}
use Rattle.units.specs.Money.{grains_plus}
use Rattle.hours.specs.Hours.{grains_sum}
use Rattle.hours.proofs.Adding.{plus_most, sum_starts, sum_on, sum_end}
use Rattle.hours.proofs.sums.grains_sum.Goals as goal

pub loop-hour-init : goal.loop-hour-init
loop-hour-init c = (omega arith, sum_starts c.args.grains.now)

pub loop-hour-preserved : goal.loop-hour-preserved
loop-hour-preserved c =
    let grains = c.args.grains.now in
    let l = c.loop-hour in
    let p = c.plus-sum in (
      plus_most l.sum.0 _ p.result.0 p.ensures,
      ap (λ (x : ℕ). grains_plus x (grains_sum (drop (l.hour-index + 1) grains))) p.ensures ∙ sum_on grains l.hour-index l.sum.0 (omega arith) l.invariant.1,
    )

pub returns : goal.returns
returns c =
    let l = c.loop-hour in
    sum_end c.args.grains.now l.hour-index l.sum.0 l.invariant.0 (omega arith) l.invariant.1
