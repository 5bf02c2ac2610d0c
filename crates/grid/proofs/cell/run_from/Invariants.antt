use Rattle.grid.proofs.Runs.{Running}
use Rattle.grid.proofs.cell.run_from.Given as goal

abbrev pub invariant-loop-end : goal.invariant-loop-end
invariant-loop-end l = Running l.text l.i l.v l.end l.value
