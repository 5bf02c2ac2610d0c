-- Coal's reserve as it was before exactly 70% belonged to a band. Only what request 1 is held against; no contract cites it. Assumes nothing.
use Rattle.std.specs.Prelude.{cond, ◌||◌, ℕ, ◌*◌, eqb, ltb}
use Rattle.call.specs.Services.{deep_peak, reserve}
use Rattle.pay.specs.declared.Member.{Member}
use Rattle.pay.specs.Kinds.{coal, gas, hydro, unpaid}
use Rattle.pay.specs.Window.{lacking, deep_peak_minute, gas_hydro_minute}

-- 2, coal: 0.35 of a point below 70% of N, 0.07 above; at exactly 70% the text names neither band
unfoldable pub coal_band_then : ℕ → ℕ → ℕ
coal_band_then N p = cond (ltb (10 * p) (7 * N)) 350 (cond (ltb (7 * N) (10 * p)) 70 0)

-- 2, coal: above half of N, what the output lacks up to the called power a
unfoldable pub coal_minute_then : ℕ → ℕ → ℕ → ℕ
coal_minute_then N a p = cond (ltb (5 * N) (10 * p)) (lacking (10 * a) p * coal_band_then N p) 0

-- 2, by kind
unfoldable pub reserve_minute_then : ℕ → ℕ → ℕ → ℕ → ℕ
reserve_minute_then kind N a p =
    cond (eqb kind coal) (coal_minute_then N a p)
    (cond (eqb kind gas || eqb kind hydro) (gas_hydro_minute N p)
    unpaid)

-- a minute of a window, a row for each service that has windows
unfoldable pub minute_pay_then : Member → ℕ → ℕ → ℕ → ℕ
minute_pay_then m service a p =
    cond (eqb service deep_peak) (deep_peak_minute m.kind m.rated.0 p)
    (cond (eqb service reserve) (reserve_minute_then m.kind m.rated.0 a p)
    unpaid)
