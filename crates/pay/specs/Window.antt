-- Services 1 and 2, deep peaking (004, article 17 (1)) and reserve (article 19): the pay of a minute, a quarter hour and a window.
-- N is rated kW, p the mean output in kW. One point per 万千瓦时 is 1,000 grains per tenth of a kW·min. Assumes nothing.
use Rattle.std.specs.Prelude.{cond, ◌||◌, List, ℕ, ◌-◌, ◌*◌, ◌/◌, eqb, ltb, get_or}
use Rattle.units.specs.Month.{minutes_per_quarter}
use Rattle.call.specs.Services.{deep_peak, reserve}
use Rattle.pay.specs.declared.Member.{Member}
use Rattle.pay.specs.Kinds.{coal, gas, hydro, unpaid}
use Rattle.pay.specs.Sum.{total}

-- what a minute at p lacks up to a level, in tenths of a kW·min
unfoldable pub lacking : ℕ → ℕ → ℕ
lacking level p = cond (ltb (10 * p) level) (level - 10 * p) 0

-- 1: below half of N, 3 points per 万千瓦时 not generated
unfoldable pub deep_peak_minute : ℕ → ℕ → ℕ → ℕ
deep_peak_minute kind N p =
    cond (eqb kind coal) (lacking (5 * N) p * 3000)
    unpaid

-- 2, coal: 0.35 of a point below 70% of N, else 0.07; exactly 70% belongs to the upper band (request 1)
unfoldable pub coal_band : ℕ → ℕ → ℕ
coal_band N p = cond (ltb (10 * p) (7 * N)) 350 70

-- 2, coal: above half of N, what the output lacks up to the called power a
unfoldable pub coal_minute : ℕ → ℕ → ℕ → ℕ
coal_minute N a p = cond (ltb (5 * N) (10 * p)) (lacking (10 * a) p * coal_band N p) 0

-- 2, gas and hydro: what the output lacks up to 70% of N, 0.01 of a point
unfoldable pub gas_hydro_minute : ℕ → ℕ → ℕ
gas_hydro_minute N p = lacking (7 * N) p * 10

-- 2, by kind
unfoldable pub reserve_minute : ℕ → ℕ → ℕ → ℕ → ℕ
reserve_minute kind N a p =
    cond (eqb kind coal) (coal_minute N a p)
    (cond (eqb kind gas || eqb kind hydro) (gas_hydro_minute N p)
    unpaid)

-- a minute of a window, a row for each service that has windows
unfoldable pub minute_pay : Member → ℕ → ℕ → ℕ → ℕ
minute_pay m service a p =
    cond (eqb service deep_peak) (deep_peak_minute m.kind m.rated.0 p)
    (cond (eqb service reserve) (reserve_minute m.kind m.rated.0 a p)
    unpaid)

-- a quarter hour is 15 minutes at one mean output
unfoldable pub quarter_pay : Member → ℕ → ℕ → ℕ → ℕ
quarter_pay m service a p = minute_pay m service a p * minutes_per_quarter

-- quarter hour i of the month, by the series
unfoldable pub quarter_at : Member → ℕ → ℕ → List ℕ → ℕ → ℕ
quarter_at m service a series i = quarter_pay m service a (get_or series i 0)

-- a window is the sum over its quarter hours
unfoldable pub window_pay : Member → ℕ → ℕ → List ℕ → ℕ → ℕ → ℕ
window_pay m service a series start minutes = total (quarter_at m service a series) (start / minutes_per_quarter) (minutes / minutes_per_quarter)

-- 1 where quarter hour i pays something
unfoldable pub quarter_counts : Member → ℕ → ℕ → List ℕ → ℕ → ℕ
quarter_counts m service a series i = cond (ltb 0 (quarter_at m service a series i)) 1 0

-- how many quarter hours of a window pay something
unfoldable pub window_quarters : Member → ℕ → ℕ → List ℕ → ℕ → ℕ → ℕ
window_quarters m service a series start minutes = total (quarter_counts m service a series) (start / minutes_per_quarter) (minutes / minutes_per_quarter)
