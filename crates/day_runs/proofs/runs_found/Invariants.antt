use mathlib.Core.Path.{◌≡◌}
use mathlib.Core.Bool.{true}
use Prim.Native.Nat.{◌-◌, ◌*◌, ◌≤◌, ◌<◌}
use Rattle.day_runs.specs.DayRuns.{places_per_day, begins_at, runs_from}
use Rattle.day_runs.specs.Inner.{day_at, most_run}
use Rattle.day_runs.proofs.Filling.{Filled}
use Rattle.day_runs.proofs.runs_found.Given as goal

abbrev pub invariant-loop-place : goal.invariant-loop-place
invariant-loop-place l =
    Filled (runs_from (day_at l.member l.b l.deep l.reserves l.series l.first) 0 places_per_day 0) l.list l.count
    (runs_from (day_at l.member l.b l.deep l.reserves l.series l.first) l.place (places_per_day - l.place) l.sum.0)
    × (l.place ≤ places_per_day)
    × (l.place < places_per_day → begins_at (day_at l.member l.b l.deep l.reserves l.series l.first) l.place ≡ true)
    × (l.sum.0 ≤ l.count * most_run)

abbrev pub decreases-loop-place : goal.decreases-loop-place
decreases-loop-place l = places_per_day - l.place
