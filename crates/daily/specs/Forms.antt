-- What the desk prints of one run of a day, and of the month behind the runs: forms and their numbers. Assumes nothing.
use Rattle.std.specs.Prelude.{List, [], ◌∷◌, ℕ}
use Rattle.render.specs.Decimal.{word}
use Rattle.form.specs.Form.{filled}
use Rattle.day_runs.specs.declared.runs.DayRun.{DayRun}

-- a run, on one line: from and up to, the end not included, the call and its service, the output, what a minute pays, and the day's sum so far
abbrev pub run_form : List ℕ
run_form = word "from %t to %t call %n %v output %n minute %n sum %n\n"

abbrev pub run_values : DayRun → List ℕ
run_values r = r.from ∷ r.upto ∷ r.call ∷ r.service ∷ r.output.0 ∷ r.minute.0 ∷ r.sum.0 ∷ []

abbrev pub run_text : DayRun → List ℕ
run_text r = filled run_form (run_values r)

-- what the month pays, behind the runs: its grains, and in points; its fen, and in yuan; a line each
abbrev pub month_form : List ℕ
month_form = word "month grains %n (%p points)\nmonth fen %n (%y yuan)\n"

abbrev pub month_text : ℕ → ℕ → List ℕ
month_text grains fen = filled month_form (grains ∷ fen ∷ fen ∷ fen ∷ [])
