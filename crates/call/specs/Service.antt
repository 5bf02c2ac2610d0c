-- A call within the paper's limits, clause by clause and row by row of the table of services. Assumes nothing.
use Rattle.std.specs.Prelude.{◌≡◌, ℕ, ◌+◌, ◌%◌, ◌≤◌, ◌<◌, pos, nat_abs}
use Rattle.call.specs.declared.Call.{Call}
use Rattle.units.specs.Month.{minutes_per_quarter}
use Rattle.call.specs.Revising.{live, contested, withdrawn}
use Rattle.call.specs.Services.{deep_peak, reserve, start_stop, standby, black_start, agc_availability, agc_contribution, frequency_event, avc, stability_trip}
use Rattle.call.specs.Services.{most_participant, most_rate, most_called, most_moved}

-- start and length are multiples of 15, and length is at least 15
pub record Window (c : Call) : Type 0 where
  pub starts : c.start % minutes_per_quarter ≡ 0
  pub lasts : c.length % minutes_per_quarter ≡ 0
  pub shortest : minutes_per_quarter ≤ c.length

-- start and length are 0
pub record NoTime (c : Call) : Type 0 where
  pub no_start : c.start ≡ 0
  pub no_length : c.length ≡ 0

-- a rate in hundredths of a percent
abbrev pub Rate : ℕ → Type 0
Rate r = r ≤ most_rate

-- the table of services, live: service; start and length; a, b and c
pub data ServiceRow (c : Call) : Type 0 where
  is_deep_peak : c.service ≡ deep_peak → Window c → c.a ≡ pos 0 → c.b ≡ 0 → c.c ≡ 0 → ServiceRow c
  is_reserve : c.service ≡ reserve → Window c → (kw : ℕ) → c.a ≡ pos kw → kw ≤ most_called → c.b ≡ 0 → c.c ≡ 0 → ServiceRow c
  is_start_stop : c.service ≡ start_stop → 1 ≤ c.length → c.a ≡ pos 0 → c.b ≡ 0 → c.c ≡ 0 → ServiceRow c
  is_standby : c.service ≡ standby → 1 ≤ c.length → c.a ≡ pos 0 → c.b ≡ 0 → c.c ≡ 0 → ServiceRow c
  is_black_start : c.service ≡ black_start → NoTime c → c.a ≡ pos 0 → c.b ≡ 0 → c.c ≡ 0 → ServiceRow c
  is_agc_availability : c.service ≡ agc_availability → NoTime c → c.a ≡ pos 0 → Rate c.b → c.c ≡ 0 → ServiceRow c
  is_agc_contribution : c.service ≡ agc_contribution → NoTime c → c.a ≡ pos 0 → Rate c.b → c.c ≡ 0 → ServiceRow c
  is_frequency_event : c.service ≡ frequency_event → nat_abs c.a ≤ most_moved → c.b ≤ most_moved → c.c ≤ 1 → ServiceRow c
  is_avc : c.service ≡ avc → c.start ≡ 0 → c.a ≡ pos 0 → Rate c.b → Rate c.c → ServiceRow c
  is_stability_trip : c.service ≡ stability_trip → c.length ≡ 0 → c.a ≡ pos 0 → c.b ≡ 0 → c.c ≡ 0 → ServiceRow c

-- service, start, length, a, b and c are all zero
pub record Blank (c : Call) : Type 0 where
  pub service : c.service ≡ 0
  pub time : NoTime c
  pub no_a : c.a ≡ pos 0
  pub no_b : c.b ≡ 0
  pub no_c : c.c ≡ 0

-- what a state asks; a live call ends within the month
pub data Stated (minutes : ℕ) (c : Call) : Type 0 where
  is_live : c.state ≡ live → c.start + c.length ≤ minutes → ServiceRow c → Stated minutes c
  is_contested_lem : c.state ≡ contested → Blank c → Stated minutes c
  is_withdrawn_lem : c.state ≡ withdrawn → Blank c → Stated minutes c

-- a call within the paper's limits, in a month of so many minutes
pub record CallWithin (minutes : ℕ) (c : Call) : Type 0 where
  pub participant : (1 ≤ c.participant) × (c.participant ≤ most_participant)
  pub number : c.number < 4294967296
  pub revision : (1 ≤ c.revision) × (c.revision < 4294967296)
  pub content : Stated minutes c
