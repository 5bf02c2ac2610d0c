-- A register line. Assumes nothing.
use Rattle.std.specs.Prelude.{Bool, ◌&&◌, ◌||◌, ℕ, ◌≤◌, eqb, leb}
use Rattle.pay.specs.declared.Member.{Member}
use Rattle.pay.specs.Kinds.{coal, gas, hydro, wind, photovoltaic, solar_thermal, pumped_storage, new_storage}

-- participants are numbered 1 to 64
abbrev pub most_member : ℕ
most_member = 64

-- rated kW are 1 to 4,000,000
abbrev pub most_rated : ℕ
most_rated = 4000000

-- participant 1 to 64, kind 1 to 8, rated kW 1 to 4,000,000
unfoldable pub member_is_sound : Member → Bool
member_is_sound m =
    leb 1 m.number && leb m.number most_member
    && leb coal m.kind && leb m.kind new_storage
    && leb 1 m.rated.0 && leb m.rated.0 most_rated

-- the same as facts: a register line within the limits
pub record MemberWithin (m : Member) : Type 0 where
  pub number : (1 ≤ m.number) × (m.number ≤ most_member)
  pub kind : (coal ≤ m.kind) × (m.kind ≤ new_storage)
  pub rated : (1 ≤ m.rated.0) × (m.rated.0 ≤ most_rated)

-- wind and photovoltaic, of which an event is paid by its rate and not by energy
unfoldable pub is_by_rate : ℕ → Bool
is_by_rate kind = eqb kind wind || eqb kind photovoltaic

-- the kinds that service 6 names: all but wind and photovoltaic
unfoldable pub has_availability : ℕ → Bool
has_availability kind = eqb kind coal || eqb kind gas || eqb kind hydro || eqb kind solar_thermal || eqb kind pumped_storage || eqb kind new_storage
