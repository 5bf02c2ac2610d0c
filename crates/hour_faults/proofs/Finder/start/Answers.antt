use Rattle.std.proofs.Common.{ℕ, ◌≤◌, ap, ◌∙◌, arith}
use Rattle.hours.specs.Hours.{most_hours, month_hours}
use Rattle.hour_faults.specs.Inner.{judge_first}
use Rattle.hour_faults.proofs.Following.{found_start}
use Rattle.hour_faults.proofs.Finder.start.Goals as goal

month-few : (hours : ℕ) → month_hours hours ≤ most_hours
unfolding month_hours
month-few hours = omega arith

pub returns : goal.returns
returns c = let a = c.args in
    found_start (month_hours a.hours) (month-few a.hours) c.start.result c.start.ensures _ c.start-2.result
    (c.start-2.ensures ∙ ap judge_first c.month_hours.ensures)
