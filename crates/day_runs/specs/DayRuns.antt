-- One day of a member's month, told run by run: the minutes that one window covers at one output, what a minute pays there, and the day's sum so far. Assumes nothing.
use Rattle.std.specs.Prelude.{Bool, cond, not, ◌&&◌, ◌||◌, List, [], ◌∷◌, ◌++◌, ℕ, zero, suc, ◌+◌, ◌-◌, ◌*◌, ◌/◌, ◌%◌, eqb, ltb, leb, length, replicate}
use Rattle.units.specs.Month.{minutes_per_day, days_of}
use Rattle.call.specs.declared.Call.{Call}
use Rattle.call.specs.Services.{deep_peak, reserve}
use Rattle.book.specs.Book.{header_at, calls_of}
use Rattle.pay.specs.declared.Member.{Member}
use Rattle.pay.specs.Sum.{total}
use Rattle.score.specs.declared.answer.Score.{Score}
use Rattle.reckon.specs.Reckoning.{windows_of, covers, output_at, minute_at, reckoning}
use Rattle.day_runs.specs.declared.runs.DayRun.{DayRun}
use Rattle.day_runs.specs.declared.DayReckoned.{DayReckoned}

-- One service

-- the first window that covers a minute, counted from 0; where none does, how many windows there are
unfoldable pub covered_by : List Call → ℕ → ℕ
covered_by [] minute = 0
covered_by (x ∷ windows) minute = cond (covers x minute) 0 (suc (covered_by windows minute))

-- a window covers the minute
unfoldable pub is_covered : List Call → ℕ → Bool
is_covered windows minute = ltb (covered_by windows minute) (length windows)

-- the number of the call that covers a minute
unfoldable pub call_over : List Call → ℕ → ℕ
call_over [] minute = 0
call_over (x ∷ windows) minute = cond (covers x minute) x.number (call_over windows minute)

-- the next minute goes on with this one: the same window covers it, at the same output
unfoldable pub goes_on : List ℕ → List Call → ℕ → Bool
goes_on series windows minute =
    eqb (covered_by windows minute) (covered_by windows (minute + 1))
    && eqb (output_at series minute) (output_at series (minute + 1))

-- a run begins at a covered minute that is the day's first, or does not go on with the one before it
unfoldable pub run_begins : List ℕ → List Call → ℕ → ℕ → Bool
run_begins series windows first minute = is_covered windows minute && (eqb minute first || not (goes_on series windows (minute - 1)))

-- how many minutes of so many go on from a minute, itself among them
unfoldable pub run_length : List ℕ → List Call → ℕ → ℕ → ℕ
run_length series windows minute zero = 0
run_length series windows minute (suc left) = suc (cond (goes_on series windows minute) (run_length series windows (suc minute) left) 0)

-- One day

-- the member, its outputs, its windows of services 1 and 2, and the day's first minute
pub record Day : Type 0 where
  pub member : Member
  pub series : List ℕ
  pub deep : List Call
  pub reserves : List Call
  pub first : ℕ

-- a place of the day: each minute has one for service 1, then one for service 2
abbrev pub places_per_day : ℕ
places_per_day = 2 * minutes_per_day

-- the minute of a place, counted from the month's first
unfoldable pub minute_of : Day → ℕ → ℕ
minute_of d place = d.first + place / 2

-- an even place is one of service 1
unfoldable pub is_deep : ℕ → Bool
is_deep place = eqb (place % 2) 0

-- the windows of the place's service
unfoldable pub windows_at : Day → ℕ → List Call
windows_at d place = cond (is_deep place) d.deep d.reserves

-- a run begins at the place
unfoldable pub begins_at : Day → ℕ → Bool
begins_at d place = run_begins d.series (windows_at d place) d.first (minute_of d place)

-- the minutes of the run that begins there, within the day
unfoldable pub length_at : Day → ℕ → ℕ
length_at d place = run_length d.series (windows_at d place) (minute_of d place) (minutes_per_day - place / 2)

-- what each of them pays
unfoldable pub pay_at : Day → ℕ → ℕ
pay_at d place = minute_at d.member d.series (windows_at d place) (minute_of d place)

-- that run, where the day's sum before it is this: from and up to as minutes of the day, the end not included
unfoldable pub run_at : Day → ℕ → ℕ → DayRun
run_at d place sum =
    record {
      service = cond (is_deep place) deep_peak reserve;
      from = place / 2;
      upto = place / 2 + length_at d place;
      call = call_over (windows_at d place) (minute_of d place);
      output = record { 0 = output_at d.series (minute_of d place) };
      minute = record { 0 = pay_at d place };
      sum = record { 0 = sum + length_at d place * pay_at d place };
    }

-- the runs that begin at so many places from one on: by their first minute, then by service
unfoldable pub runs_from : Day → ℕ → ℕ → ℕ → List DayRun
runs_from d place zero sum = []
runs_from d place (suc left) sum =
    cond (begins_at d place)
    (run_at d place sum ∷ runs_from d (suc place) left (sum + length_at d place * pay_at d place))
    (runs_from d (suc place) left sum)

-- The answer

-- day 1 is the month's first
unfoldable pub day_of : Member → List ℕ → List ℕ → ℕ → Day
day_of m b series day =
    record {
      member = m;
      series = series;
      deep = windows_of m deep_peak (calls_of b);
      reserves = windows_of m reserve (calls_of b);
      first = (day - 1) * minutes_per_day;
    }

-- the runs of a day of the month; a day that the month does not have has none
unfoldable pub day_runs : Member → List ℕ → List ℕ → ℕ → List DayRun
day_runs m b series day =
    cond (leb 1 day && leb day (days_of (header_at b).year (header_at b).month))
    (runs_from (day_of m b series day) 0 places_per_day 0)
    []

-- a run of nothing
unfoldable pub blank_run : DayRun
blank_run = record { service = 0; from = 0; upto = 0; call = 0; output = record { 0 = 0 }; minute = record { 0 = 0 }; sum = record { 0 = 0 } }

-- no day has more runs: each begins with a quarter hour
abbrev pub most_runs : ℕ
most_runs = 192

-- there is room for as many: behind the runs it is blank
unfoldable pub filled_up : List DayRun → List DayRun
filled_up runs = runs ++ replicate (most_runs - length runs) blank_run

-- a month that is refused has no runs
unfoldable pub runs_told : Member → List ℕ → List ℕ → ℕ → List DayRun
runs_told m b series day = cond (eqb (reckoning m b series).number 0) (day_runs m b series day) []

-- the month's answer and so many runs
unfoldable pub day_reckoned : Score → List DayRun → DayReckoned
day_reckoned r runs =
    record {
      number = r.number;
      place = r.place;
      grains = r.grains;
      fen = r.fen;
      count = length runs;
      runs = filled_up runs;
    }

-- the score of one member, minute by minute, and the runs of one day
unfoldable pub day_reckoning : Member → List ℕ → List ℕ → ℕ → DayReckoned
day_reckoning m b series day = day_reckoned (reckoning m b series) (runs_told m b series day)

-- What the promises speak of

-- what runs pay: each its minutes times what a minute pays
unfoldable pub runs_pay : List DayRun → ℕ
runs_pay [] = 0
runs_pay (r ∷ runs) = (r.upto - r.from) * r.minute.0 + runs_pay runs

-- the day's sum as it is told last, where it was this before
unfoldable pub last_sum : ℕ → List DayRun → ℕ
last_sum sum [] = sum
last_sum sum (r ∷ runs) = last_sum r.sum.0 runs

-- what the minutes of a day pay, in both services
unfoldable pub day_minutes : Day → ℕ
day_minutes d = total (minute_at d.member d.series d.deep) d.first minutes_per_day + total (minute_at d.member d.series d.reserves) d.first minutes_per_day

-- what the runs of a day pay that are told
unfoldable pub day_pay : Member → List ℕ → List ℕ → ℕ → ℕ
day_pay m b series day = runs_pay (runs_told m b series day)

-- the same of all days of the month, from day 1 on
unfoldable pub days_pay : Member → List ℕ → List ℕ → ℕ
days_pay m b series = total (day_pay m b series) 1 (days_of (header_at b).year (header_at b).month)
