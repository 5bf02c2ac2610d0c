use Rattle.std.proofs.Common.{◌≡◌, drop}
use Rattle.faults.specs.Inner.{first_row}
use Rattle.faults.proofs.first_row.Given as goal

abbrev pub invariant-loop-b : goal.invariant-loop-b
invariant-loop-b l = first_row (drop l.b-index l.bytes) ≡ first_row l.bytes
