use mathlib.Core.Path.{◌≡◌}
use Prim.Native.Nat.{◌+◌, ◌-◌}
use Rattle.reckon.specs.Inner.{calls_at}
use Rattle.day_runs.specs.DayRuns.{run_length}
use Rattle.day_runs.proofs.runs.run_length.Given as goal

abbrev pub invariant-loop-gone : goal.invariant-loop-gone
invariant-loop-gone l = run_length l.series (calls_at l.b l.places) l.minute l.left ≡ l.gone + run_length l.series (calls_at l.b l.places) (l.minute + l.gone) (l.left - l.gone)
