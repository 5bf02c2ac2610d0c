use mathlib.Core.Path.{◌≡◌}
use Prim.Native.Nat.{◌+◌}
use Rattle.reckon.specs.Inner.{calls_at}
use Rattle.day_runs.specs.DayRuns.{covered_by}
use Rattle.day_runs.proofs.Goes.{covered_left}
use Rattle.day_runs.proofs.runs.covered_by.Given as goal

abbrev pub invariant-loop-k : goal.invariant-loop-k
invariant-loop-k l = covered_by (calls_at l.b l.places) l.minute ≡ l.k + covered_left l.b l.places l.minute l.k
