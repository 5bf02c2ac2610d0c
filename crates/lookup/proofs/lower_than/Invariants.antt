use Prim.Native.Nat.{◌-◌}
use Rattle.lookup.specs.Inner.{Parts}
use Rattle.lookup.proofs.lower_than.Given as goal

abbrev pub invariant-loop-low : goal.invariant-loop-low
invariant-loop-low l = Parts l.b l.key l.low l.high

abbrev pub decreases-loop-low : goal.decreases-loop-low
decreases-loop-low l = l.high - l.low
