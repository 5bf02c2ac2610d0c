-- What is open to which kind, row by row of the paper's list of services: the condition whose failure is refusal 12. Assumes nothing.
use Rattle.std.specs.Prelude.{◌≡◌, ◌⊎◌, ℕ, ◌≤◌, ◌<◌, pos}
use Rattle.call.specs.declared.Call.{Call}
use Rattle.call.specs.Services.{deep_peak, reserve, start_stop, standby, black_start, agc_availability, agc_contribution, frequency_event, avc, stability_trip, most_rate}
use Rattle.pay.specs.declared.Member.{Member}
use Rattle.pay.specs.declared.open.Month.{Month}
use Rattle.pay.specs.Kinds.{coal, gas, hydro, wind, photovoltaic, solar_thermal, pumped_storage, new_storage}
use Rattle.pay.specs.Open.{closing_month}

-- a month comes before another: it is of an earlier year, or of the same year and an earlier month
abbrev pub Before : Month → Month → Type 0
Before month other = (month.year < other.year) ⊎ (month.year ≡ other.year) × (month.month < other.month)

-- the kinds that service 6 names
abbrev pub HasAvailability : ℕ → Type 0
HasAvailability kind = (kind ≡ coal) ⊎ (kind ≡ gas) ⊎ (kind ≡ hydro) ⊎ (kind ≡ solar_thermal) ⊎ (kind ≡ pumped_storage) ⊎ (kind ≡ new_storage)

-- a call of a month is open to a member: its service, the kinds that the service names, and what it asks of the fields; 7, 9 and 10 are for all kinds,
-- and so is 5, before the month from which it is bought by auction (request 9)
pub data Open (month : Month) (m : Member) (x : Call) : Type 0 where
  deep_peak_coal : x.service ≡ deep_peak → m.kind ≡ coal → Open month m x
  reserve_coal : x.service ≡ reserve → m.kind ≡ coal → (kw : ℕ) → x.a ≡ pos kw → 1 ≤ kw → kw ≤ m.rated.0 → Open month m x
  reserve_gas_hydro : x.service ≡ reserve → (m.kind ≡ gas) ⊎ (m.kind ≡ hydro) → x.a ≡ pos 0 → Open month m x
  start_stop_coal_gas_hydro : x.service ≡ start_stop → (m.kind ≡ coal) ⊎ (m.kind ≡ gas) ⊎ (m.kind ≡ hydro) → Open month m x
  standby_coal : x.service ≡ standby → m.kind ≡ coal → Open month m x
  black_start_all : x.service ≡ black_start → Before month closing_month → Open month m x
  availability_named : x.service ≡ agc_availability → HasAvailability m.kind → Open month m x
  contribution_all : x.service ≡ agc_contribution → Open month m x
  event_wind_photovoltaic : x.service ≡ frequency_event → (m.kind ≡ wind) ⊎ (m.kind ≡ photovoltaic) → x.a ≡ pos 0 → x.b ≤ most_rate → Open month m x
  event_others : x.service ≡ frequency_event → (m.kind ≡ wind → ⊥) → (m.kind ≡ photovoltaic → ⊥) → Open month m x
  avc_all : x.service ≡ avc → Open month m x
  trip_all : x.service ≡ stability_trip → Open month m x
