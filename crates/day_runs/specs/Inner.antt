-- What inner contracts speak of, and no sentence of the request. Assumes nothing.
use Rattle.std.specs.Prelude.{◌≡◌, true, List, ℕ, ◌+◌, ◌-◌, ◌*◌, ◌≤◌, ◌<◌, length}
use Rattle.call.specs.declared.Call.{Call}
use Rattle.pay.specs.declared.Member.{Member}
use Rattle.units.specs.Month.{minutes_per_day}
use Rattle.reckon.specs.Reckoning.{output_at, minute_at}
use Rattle.reckon.specs.Inner.{calls_at, most_minute}
use Rattle.day_runs.specs.declared.runs.DayRun.{DayRun}
use Rattle.day_runs.specs.declared.RunList.{RunList}
use Rattle.day_runs.specs.DayRuns.{Day, places_per_day, begins_at, run_length, call_over, runs_from, most_runs, filled_up}

-- the day of a member whose windows lie at these places of a book
abbrev pub day_at : Member → List ℕ → List ℕ → List ℕ → List ℕ → ℕ → Day
day_at m b deep reserves series first = record { member = m; series = series; deep = calls_at b deep; reserves = calls_at b reserves; first = first }

-- no run pays more
abbrev pub most_run : ℕ
most_run = minutes_per_day * most_minute

-- the next place at which a run begins, from a place on, or the day's end: up to it there is none
pub record Next (d : Day) (place next : ℕ) : Type 0 where
  pub not_before : place ≤ next
  pub within : next ≤ places_per_day
  pub begins : next < places_per_day → begins_at d next ≡ true
  pub none_between : (sum : ℕ) → runs_from d place (places_per_day - place) sum ≡ runs_from d next (places_per_day - next) sum

-- the run of a service's windows that begins at minute `from` of a day, where the day's sum before it is this
unfoldable pub service_run : Member → List ℕ → List Call → ℕ → ℕ → ℕ → ℕ → DayRun
service_run m series windows service first from before =
    record {
      service = service;
      from = from;
      upto = from + run_length series windows (first + from) (minutes_per_day - from);
      call = call_over windows (first + from);
      output = record { 0 = output_at series (first + from) };
      minute = record { 0 = minute_at m series windows (first + from) };
      sum = record { 0 = before + run_length series windows (first + from) (minutes_per_day - from) * minute_at m series windows (first + from) };
    }

pub record RunIs (m : Member) (series : List ℕ) (windows : List Call) (service first from before : ℕ) (r : DayRun) : Type 0 where
  pub run : r ≡ service_run m series windows service first from before
  pub most : r.sum.0 ≤ before + most_run

-- the day has no more runs than there is room for
abbrev pub FewRuns : Day → Type 0
FewRuns d = length (runs_from d 0 places_per_day 0) ≤ most_runs

-- the runs that were found
pub record RunsFound (runs : List DayRun) (r : RunList) : Type 0 where
  pub count : r.count ≡ length runs
  pub list : r.list ≡ filled_up runs
