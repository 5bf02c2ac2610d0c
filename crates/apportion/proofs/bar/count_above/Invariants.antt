use mathlib.Core.Path.{◌≡◌}
use Prim.Native.Nat.{◌+◌}
use lib.ListN.{drop}
use Rattle.apportion.specs.Bar.{count_above}
use Rattle.apportion.proofs.bar.count_above.Given as goal

abbrev pub invariant-loop-r : goal.invariant-loop-r
invariant-loop-r l = l.n + count_above l.bar (drop l.r-index l.rests) ≡ count_above l.bar l.rests
