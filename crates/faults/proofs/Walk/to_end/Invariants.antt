use Rattle.std.proofs.Common.{◌≡◌, ◌-◌, ◌≤◌, List, length}
use Rattle.faults.specs.declared.Found.{Found}
use Rattle.faults.specs.Inner.{Walks}
use Rattle.faults.proofs.Walk.to_end.Given as goal

abbrev pub invariant-loop-self : goal.invariant-loop-self
invariant-loop-self l = (l.initial.self.at ≤ l.self.at) × (l.initial.self.at ≤ length l.text → l.self.at ≤ length l.text) × (length l.self.ended ≡ 8)
    × ((left : List Found) → Walks l.text l.initial.self left → Walks l.text l.self left)

abbrev pub decreases-loop-self : goal.decreases-loop-self
decreases-loop-self l = length l.text - l.self.at
