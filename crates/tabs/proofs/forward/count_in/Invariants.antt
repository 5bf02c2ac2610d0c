use mathlib.Core.Path.{◌≡◌}
use Prim.Native.Nat.{◌-◌}
use lib.ListN.{length, drop}
use Rattle.tabs.specs.Tabs.{page_size}
use Rattle.tabs.specs.Inner.{Midway}
use Rattle.tabs.proofs.forward.count_in.Given as goal

abbrev pub invariant-loop-b : goal.invariant-loop-b
invariant-loop-b l = Midway l.first l.second l.b l.page × (drop page_size l.page ≡ drop page_size l.initial.page) × (length l.page ≡ length l.initial.page)

abbrev pub decreases-loop-b : goal.decreases-loop-b
decreases-loop-b l = length l.second - l.b
