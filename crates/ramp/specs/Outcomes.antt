-- What scoring an hour answers exactly when: a row for each refusal and one for its grains, each with its condition and with those before it not met. Assumes nothing.
use Rattle.std.specs.Prelude.{◌≡◌, ◌⊎◌, ◌≢◌, List, ℕ, ◌*◌, ◌%◌, ◌≤◌, ◌<◌, length, get_or}
use Rattle.pay.specs.declared.Member.{Member}
use Rattle.pay.specs.Member.{MemberWithin}
use Rattle.pay.specs.Kinds.{coal, gas, hydro}
use Rattle.ramp.specs.declared.Action.{Action}
use Rattle.ramp.specs.declared.Hour.{Hour}
use Rattle.ramp.specs.Ramping.{most_actions, most_power, most_delay, most_ramp_rate, most_over_standard, first_standard, no_action, hour_grains, hour_refused, hour_paid}
use Rattle.ramp.specs.Bytes.{action_size, actions_in}

-- a coal, gas or hydro unit
abbrev pub Ordinary : Member → Type 0
Ordinary m = (m.kind ≡ coal) ⊎ (m.kind ≡ gas) ⊎ (m.kind ≡ hydro)

-- an action within the limits, of this standard rate
pub record ActionWithin (standard : ℕ) (a : Action) : Type 0 where
  pub some_rate : a.standard ≢ 0
  pub one_rate : a.standard ≡ standard
  pub commanded : a.command.0 ≢ a.start.0
  pub powers : (a.start.0 ≤ most_power) × (a.end.0 ≤ most_power) × (a.command.0 ≤ most_power)
  pub delay : a.delay ≤ most_delay
  pub rates : (a.real ≤ most_ramp_rate) × (a.standard ≤ most_ramp_rate)
  pub real : a.real ≤ most_over_standard * a.standard

-- the actions before action i are
abbrev pub ActionsWithin : List Action → ℕ → Type 0
ActionsWithin actions i = (k : ℕ) → k < i → ActionWithin (first_standard actions) (get_or actions k no_action)

-- register line and kind are good
pub record MayRamp (m : Member) : Type 0 where
  pub line : MemberWithin m
  pub ordinary : Ordinary m

-- the answer r of scoring an hour, a row each
pub data HourOutcome (m : Member) (actions : List Action) (r : Hour) : Type 0 where
  bad_line_lem : r ≡ hour_refused 10 0 → (MemberWithin m → ⊥) → HourOutcome m actions r
  other_kind : r ≡ hour_refused 12 0 → MemberWithin m → (Ordinary m → ⊥) → HourOutcome m actions r
  bad_action : (i : ℕ) → r ≡ hour_refused 10 i → MayRamp m → i < length actions → i < most_actions → ActionsWithin actions i
      → (ActionWithin (first_standard actions) (get_or actions i no_action) → ⊥) → HourOutcome m actions r
  one_more : r ≡ hour_refused 10 most_actions → MayRamp m → most_actions < length actions → ActionsWithin actions most_actions → HourOutcome m actions r
  paid : r ≡ hour_paid (hour_grains m.rated.0 actions) → MayRamp m → length actions ≤ most_actions → ActionsWithin actions (length actions) → HourOutcome m actions r

-- the same in bytes: 1 first of all, where they are no multiple of 24
pub data HourBytesOutcome (m : Member) (bytes : List ℕ) (r : Hour) : Type 0 where
  no_actions : r ≡ hour_refused 1 0 → (length bytes % action_size ≡ 0 → ⊥) → HourBytesOutcome m bytes r
  of_actions : length bytes % action_size ≡ 0 → HourOutcome m (actions_in bytes) r → HourBytesOutcome m bytes r
