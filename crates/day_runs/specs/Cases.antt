-- A later day of the case over midnight: coal of 300,000 kW at 140,000, deep peaking from 23:00 of day 1 to 01:00 of day 2. Assumes nothing.
use Rattle.call.specs.Services.{deep_peak}
use Rattle.day_runs.specs.declared.runs.DayRun.{DayRun}

-- the one run of day 1, and the one of day 2: 60 minutes of 300,000,000 grains each
unfoldable pub hour_before : DayRun
hour_before = record { service = deep_peak; from = 1380; upto = 1440; call = 1; output = record { 0 = 140000 }; minute = record { 0 = 300000000 }; sum = record { 0 = 18000000000 } }

unfoldable pub hour_behind : DayRun
hour_behind = record { service = deep_peak; from = 0; upto = 60; call = 1; output = record { 0 = 140000 }; minute = record { 0 = 300000000 }; sum = record { 0 = 18000000000 } }
