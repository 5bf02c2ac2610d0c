use Prim.Native.Nat.{◌-◌, ◌≤◌}
use Rattle.apportion.specs.Bar.{count_above}
use Rattle.apportion.proofs.bar.bar_for.Given as goal

abbrev pub invariant-loop-low : goal.invariant-loop-low
invariant-loop-low l = (l.low ≤ l.bar) × (l.bar ≤ l.all) × (count_above l.bar l.rests ≤ l.left)

abbrev pub decreases-loop-low : goal.decreases-loop-low
decreases-loop-low l = l.bar - l.low
