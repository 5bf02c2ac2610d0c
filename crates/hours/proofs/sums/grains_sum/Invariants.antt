use Rattle.std.proofs.Common.{◌≡◌, ◌≤◌, drop}
use Rattle.units.specs.Money.{most_grains, grains_plus}
use Rattle.hours.specs.Hours.{grains_sum}
use Rattle.hours.proofs.sums.grains_sum.Given as goal

abbrev pub invariant-loop-hour : goal.invariant-loop-hour
invariant-loop-hour l = (l.sum.0 ≤ most_grains) × (grains_plus l.sum.0 (grains_sum (drop l.hour-index l.grains)) ≡ grains_sum l.grains)
