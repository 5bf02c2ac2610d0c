-- What the words of 12 say is open instead, as facts: each sentence, and the values by which it alone is told. Assumes nothing.
use Rattle.std.specs.Prelude.{◌≡◌, List, [], ◌∷◌, ◌⊎◌, ◌↔◌, ℕ, ◌≤◌, ℤ, pos}
use Rattle.call.specs.declared.Call.{Call}
use Rattle.call.specs.Services.{most_rate}
use Rattle.pay.specs.declared.Member.{Member}
use Rattle.pay.specs.declared.open.Month.{Month}
use Rattle.pay.specs.Kinds.{coal, gas, hydro, wind, photovoltaic}
use Rattle.pay.specs.Member.{MemberWithin}
use Rattle.pay.specs.Open.{closing_month}
use Rattle.pay.specs.OpenRows.{Before, Open}

-- the call with another a
abbrev pub with_a : ℤ → Call → Call
with_a a x =
    record {
      participant = x.participant;
      service = x.service;
      state = x.state;
      number = x.number;
      revision = x.revision;
      start = x.start;
      length = x.length;
      a = a;
      b = x.b;
      c = x.c;
    }

-- only coal has it
abbrev pub OnlyCoal : Month → Call → Type 0
OnlyCoal month x = (m : Member) → Open month m x ↔ (m.kind ≡ coal)

-- only coal, gas and hydro have it, with some A
abbrev pub OnlyThree : Month → Call → Type 0
OnlyThree month x = (m : Member) → 1 ≤ m.rated.0 → ((a : ℤ) × Open month m (with_a a x)) ↔ ((m.kind ≡ coal) ⊎ (m.kind ≡ gas) ⊎ (m.kind ≡ hydro))

-- coal has A from 1 to its rating
abbrev pub CoalToRating : Month → Call → Type 0
CoalToRating month x = (m : Member) → m.kind ≡ coal → Open month m x ↔ ((kw : ℕ) × (x.a ≡ pos kw) × (1 ≤ kw) × (kw ≤ m.rated.0))

-- the kind has A 0
abbrev pub KindAtZero : Month → Call → ℕ → Type 0
KindAtZero month x kind = (m : Member) → m.kind ≡ kind → Open month m x ↔ (x.a ≡ pos 0)

-- it is bought by auction from the closing month on
abbrev pub ByAuction : Month → Call → Type 0
ByAuction month x = (m : Member) → Open month m x ↔ Before month closing_month

-- all kinds but wind and photovoltaic have it
abbrev pub AllButSky : Month → Call → Type 0
AllButSky month x = (m : Member) → MemberWithin m → Open month m x ↔ ((m.kind ≡ wind → ⊥) × (m.kind ≡ photovoltaic → ⊥))

-- wind and photovoltaic have A 0 and B up to 10000
abbrev pub SkyAtZero : Month → Call → Type 0
SkyAtZero month x = (m : Member) → (m.kind ≡ wind) ⊎ (m.kind ≡ photovoltaic) → Open month m x ↔ ((x.a ≡ pos 0) × (x.b ≤ most_rate))

-- one sentence is told, in the form's order, and it is true
pub data Wanted (month : Month) (x : Call) (kind : ℕ) (vs : List ℕ) : Type 0 where
  only_coal : vs ≡ (1 ∷ 0 ∷ 0 ∷ 0 ∷ kind ∷ 0 ∷ 0 ∷ 0 ∷ []) → OnlyCoal month x → Wanted month x kind vs
  only_three : vs ≡ (0 ∷ 1 ∷ 0 ∷ 0 ∷ kind ∷ 0 ∷ 0 ∷ 0 ∷ []) → OnlyThree month x → Wanted month x kind vs
  coal_to_rating : vs ≡ (0 ∷ 0 ∷ 1 ∷ 0 ∷ kind ∷ 0 ∷ 0 ∷ 0 ∷ []) → CoalToRating month x → Wanted month x kind vs
  kind_at_zero : vs ≡ (0 ∷ 0 ∷ 0 ∷ 1 ∷ kind ∷ 0 ∷ 0 ∷ 0 ∷ []) → KindAtZero month x kind → Wanted month x kind vs
  by_auction : vs ≡ (0 ∷ 0 ∷ 0 ∷ 0 ∷ kind ∷ 1 ∷ 0 ∷ 0 ∷ []) → ByAuction month x → Wanted month x kind vs
  all_but_sky : vs ≡ (0 ∷ 0 ∷ 0 ∷ 0 ∷ kind ∷ 0 ∷ 1 ∷ 0 ∷ []) → AllButSky month x → Wanted month x kind vs
  sky_at_zero : vs ≡ (0 ∷ 0 ∷ 0 ∷ 0 ∷ kind ∷ 0 ∷ 0 ∷ 1 ∷ []) → SkyAtZero month x → Wanted month x kind vs
