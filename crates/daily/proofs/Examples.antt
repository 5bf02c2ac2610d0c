-- Two runs as they are printed, worked out apart. Assumes nothing.
use mathlib.Core.Path.{◌≡◌, refl}
use Rattle.call.specs.Services.{deep_peak, reserve}
use Rattle.clock.specs.Clock.{before, behind, two_digits}
use Rattle.names.specs.Names.{skip, word_at, services, service_word}
use Rattle.render.specs.Decimal.{word, decimal_in, decimal}
use Rattle.day_runs.specs.declared.runs.DayRun.{DayRun}
use Rattle.form.specs.Form.{time_text, shown, word_shown, is_number, is_sign, byte_text, next_on, next_marked, taken_by, filled_from}
use Rattle.daily.specs.Forms.{run_text}

-- a quarter hour of reserve
abbrev pub quarter : DayRun
quarter = record { service = reserve; from = 15; upto = 30; call = 9; output = record { 0 = 170 }; minute = record { 0 = 42 }; sum = record { 0 = 630 } }

pub run_line : run_text quarter ≡ word "from 00:15 to 00:30 call 9 reserve output 170 minute 42 sum 630\n"
unfolding filled_from byte_text next_on next_marked taken_by is_sign is_number shown word_shown time_text two_digits service_word word_at skip services before behind decimal decimal_in
run_line = refl

-- deep peaking up to the day's end
abbrev pub evening : DayRun
evening = record { service = deep_peak; from = 1267; upto = 1440; call = 10; output = record { 0 = 0 }; minute = record { 0 = 30 }; sum = record { 0 = 5190 } }

pub up_to_midnight : run_text evening ≡ word "from 21:07 to 24:00 call 10 deep-peak output 0 minute 30 sum 5190\n"
unfolding filled_from byte_text next_on next_marked taken_by is_sign is_number shown word_shown time_text two_digits service_word word_at skip services before behind decimal decimal_in
up_to_midnight = refl
