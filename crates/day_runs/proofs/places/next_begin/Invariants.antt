use mathlib.Core.Path.{◌≡◌}
use Prim.Native.Nat.{ℕ, ◌-◌}
use Rattle.pay.specs.declared.Member.{Member}
use Rattle.day_runs.specs.DayRuns.{places_per_day, runs_from}
use Rattle.day_runs.specs.Inner.{day_at}
use Rattle.day_runs.proofs.places.next_begin.Given as goal

abbrev pub invariant-loop-at : goal.invariant-loop-at
invariant-loop-at l =
    ((m : Member) (sum : ℕ)
    → runs_from (day_at m l.b l.deep l.reserves l.series l.first) l.place (places_per_day - l.place) sum ≡ runs_from (day_at m l.b l.deep l.reserves l.series l.first) l.at (places_per_day - l.at) sum)
