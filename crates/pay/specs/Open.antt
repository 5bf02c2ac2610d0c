-- What is open to which kind: refusal 12, apart from pay. Assumes nothing.
use Rattle.std.specs.Prelude.{Bool, true, false, cond, ◌&&◌, ◌||◌, ℕ, eqb, ltb, leb, ℤ, pos, negsuc}
use Rattle.std.specs.Int.Signed.{le_z}
use Rattle.call.specs.declared.Call.{Call}
use Rattle.call.specs.Services.{deep_peak, reserve, start_stop, standby, black_start, agc_availability, agc_contribution, frequency_event, avc, stability_trip, most_rate}
use Rattle.pay.specs.declared.Member.{Member}
use Rattle.pay.specs.declared.open.Month.{Month}
use Rattle.pay.specs.Member.{is_by_rate, has_availability}
use Rattle.pay.specs.Kinds.{coal, gas, hydro, closed}

-- a is 0
unfoldable pub is_zero : ℤ → Bool
is_zero (pos n) = eqb n 0
is_zero (negsuc n) = false

-- 2: coal with a from 1 to N, gas and hydro with a = 0
unfoldable pub reserve_open : ℕ → ℕ → ℤ → Bool
reserve_open kind N a =
    cond (eqb kind coal) (le_z (pos 1) a && le_z a (pos N))
    (cond (eqb kind gas || eqb kind hydro) (is_zero a)
    closed)

-- 8: wind and photovoltaic with a = 0 and b at most 10,000, the other kinds as the call comes
unfoldable pub event_open : ℕ → ℤ → ℕ → Bool
event_open kind a b = cond (is_by_rate kind) (is_zero a && leb b most_rate) true

-- a month is before another: of an earlier year, or of the same year and an earlier month
unfoldable pub is_before : Month → Month → Bool
is_before month other = ltb month.year other.year || eqb month.year other.year && ltb month.month other.month

-- 5: black start is bought by auction from this month on, January 2027 (request 9)
abbrev pub closing_month : Month
closing_month = record { year = 2027; month = 1 }

-- 5: to all kinds before the closing month, from it on to none
unfoldable pub black_start_open : Month → Bool
black_start_open month = is_before month closing_month

-- what is open in a month, a row for each service: 7, 9 and 10 to all kinds
unfoldable pub open_to : Month → Member → Call → Bool
open_to month m x =
    cond (eqb x.service deep_peak) (eqb m.kind coal)
    (cond (eqb x.service reserve) (reserve_open m.kind m.rated.0 x.a)
    (cond (eqb x.service start_stop) (eqb m.kind coal || eqb m.kind gas || eqb m.kind hydro)
    (cond (eqb x.service standby) (eqb m.kind coal)
    (cond (eqb x.service black_start) (black_start_open month)
    (cond (eqb x.service agc_availability) (has_availability m.kind)
    (cond (eqb x.service agc_contribution) true
    (cond (eqb x.service frequency_event) (event_open m.kind x.a x.b)
    (cond (eqb x.service avc) true
    (cond (eqb x.service stability_trip) true
    closed)))))))))
