use Rattle.std.proofs.Common.{◌+◌, ◌-◌, List, length}
use Rattle.faults.specs.declared.Found.{Found}
use Rattle.faults.specs.Inner.{Walks}
use Rattle.faults.proofs.Walk.next_fault.Given as goal

abbrev pub invariant-loop-walk : goal.invariant-loop-walk
invariant-loop-walk l = (left : List Found) → Walks l.text l.initial.walk left → Walks l.text l.walk left

abbrev pub decreases-loop-walk : goal.decreases-loop-walk
decreases-loop-walk l = length l.text + 1 - l.walk.at
