use Prim.Native.Nat.{◌≤◌}
use Rattle.apportion.proofs.ties.count_equal.Given as goal

abbrev pub invariant-loop-r : goal.invariant-loop-r
invariant-loop-r l = l.n ≤ l.r-index
