-- Services 3 to 10: grains for each kW of rating. One point per 万千瓦 is 600,000 grains per kW. Rates b and c are hundredths of a percent. Assumes nothing.
use Rattle.std.specs.Prelude.{cond, ◌&&◌, ◌||◌, ℕ, ◌+◌, ◌-◌, ◌*◌, ◌/◌, min, eqb, ltb, leb}
use Rattle.units.specs.Month.{minutes_per_day}
use Rattle.call.specs.declared.Call.{Call}
use Rattle.call.specs.Services.{start_stop, standby, black_start, agc_availability, agc_contribution, frequency_event, avc, stability_trip}
use Rattle.pay.specs.declared.Member.{Member}
use Rattle.pay.specs.Member.{is_by_rate, has_availability}
use Rattle.pay.specs.Kinds.{coal, gas, hydro, wind, photovoltaic, solar_thermal, pumped_storage, new_storage, unpaid}

-- the whole percents of a rate above a level; a rate below the level has none
unfoldable pub percents_above : ℕ → ℕ → ℕ
percents_above level rate = (rate - level) / 100

-- 3, start-stop (004, article 17 (2)): coal 20 points where stop to restart takes at most 72 hours, else none; gas 10; hydro 0.2
unfoldable pub start_stop_rate : ℕ → ℕ → ℕ
start_stop_rate kind minutes =
    cond (eqb kind coal) (cond (leb minutes 4320) 12000000 0)
    (cond (eqb kind gas) 6000000
    (cond (eqb kind hydro) 120000
    unpaid))

-- 4, standby (article 20): coal a point for each whole day (house rule), at most 7 per call
unfoldable pub standby_rate : ℕ → ℕ → ℕ
standby_rate kind minutes =
    cond (eqb kind coal) (min 7 (minutes / minutes_per_day) * 600000)
    unpaid

-- 5, black start (article 24): hydro and pumped storage 1 point, the others 2
unfoldable pub black_start_rate : ℕ → ℕ
black_start_rate kind =
    cond (eqb kind hydro || eqb kind pumped_storage) 600000
    (cond (eqb kind coal || eqb kind gas || eqb kind wind || eqb kind photovoltaic || eqb kind solar_thermal || eqb kind new_storage) 1200000
    unpaid)

-- 5: at most 300 points, whatever the rating
abbrev pub most_black_start : ℕ
most_black_start = 1800000000000

-- 6, AGC availability (article 15 (1)): all but wind and photovoltaic a point for each percent above 98%, in proportion: 0.01 for each hundredth (request 4)
unfoldable pub availability_rate : ℕ → ℕ → ℕ
availability_rate kind b =
    cond (has_availability kind) ((b - 9800) * 6000)
    unpaid

-- 7, AGC contribution (article 15 (2) and (3)): coal, gas, solar thermal and new storage 3 points times the rate, hydro and pumped storage
-- 0.5; wind and photovoltaic 0.2 of a point for each whole percent above 90%
unfoldable pub contribution_rate : ℕ → ℕ → ℕ
contribution_rate kind b =
    cond (eqb kind coal || eqb kind gas || eqb kind solar_thermal || eqb kind new_storage) (b * 180)
    (cond (eqb kind hydro || eqb kind pumped_storage) (b * 30)
    (cond (eqb kind wind || eqb kind photovoltaic) (percents_above 9000 b * 120000)
    unpaid))

-- 8, primary frequency (article 14 (2)) by bands of b: none below 80%, from 80% 5 points and 0.4 for each percent above, from 90% 9;
-- c = 1 is over-regulation, and has none
unfoldable pub event_band : ℕ → ℕ → ℕ
event_band b c =
    cond (eqb c 1) 0
    (cond (ltb b 8000) 0
    (cond (ltb b 9000) (3000000 + (b - 8000) * 2400)
    5400000))

-- 8 of wind and photovoltaic, by the bands; the other kinds are paid by energy, over the month
unfoldable pub event_rate : ℕ → ℕ → ℕ → ℕ
event_rate kind b c =
    cond (is_by_rate kind) (event_band b c)
    unpaid

-- 9, AVC (article 23), all kinds: from 98% of the time and a rate of 99%, by the rate above 99% and the minutes in use
unfoldable pub avc_rate : ℕ → ℕ → ℕ → ℕ
avc_rate minutes b c = cond (leb 9800 c && leb 9900 b) ((b - 9900) * minutes) 0

-- 10, stability trip (articles 25 and 26), all kinds: 4 points
abbrev pub trip_rate : ℕ
trip_rate = 2400000

-- the rate of a live call, a row for each service
unfoldable pub rate_of : ℕ → Call → ℕ
rate_of kind x =
    cond (eqb x.service start_stop) (start_stop_rate kind x.length)
    (cond (eqb x.service standby) (standby_rate kind x.length)
    (cond (eqb x.service black_start) (black_start_rate kind)
    (cond (eqb x.service agc_availability) (availability_rate kind x.b)
    (cond (eqb x.service agc_contribution) (contribution_rate kind x.b)
    (cond (eqb x.service frequency_event) (event_rate kind x.b x.c)
    (cond (eqb x.service avc) (avc_rate x.length x.b x.c)
    (cond (eqb x.service stability_trip) trip_rate
    unpaid)))))))

-- the pay of a live call by its rate: the rating times the rate, and black start's at most its ceiling
unfoldable pub rated_pay : Member → Call → ℕ
rated_pay m x =
    cond (eqb x.service black_start) (min most_black_start (m.rated.0 * rate_of m.kind x))
    (m.rated.0 * rate_of m.kind x)
