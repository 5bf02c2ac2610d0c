-- What an accepted hour is: a sound register line of an ordinary unit, at most 60 actions, each within the limits; and the other way round. Assumes nothing.
use mathlib.Core.Path.{◌≡◌, refl}
use mathlib.Core.Bool.{Bool, true, false, cond, not}
use mathlib.Core.List.{List}
use Prim.Native.Nat.{ℕ, ◌≤◌}
use native.Mathlib.Omega.{arith}
use lib.Dec.{ltb}
use lib.ListN.{length}
use borrow.Author.Tests.{ltb-false, not-false, le-ltb}
use Rattle.pay.specs.declared.Member.{Member}
use Rattle.pay.specs.Member.{member_is_sound}
use Rattle.ramp.specs.declared.Action.{Action}
use Rattle.ramp.specs.Ramping.{most_actions, is_ramping, first_standard, first_bad_action}
use Rattle.ramp.specs.Ramping.{hour_grains, hour_refused, hour_paid, ramping}
use Rattle.ramp.proofs.Within.{AllWithin}
use Rattle.ramp.proofs.Sound.{none_bad, bad_none}

pub record Accepted (m : Member) (actions : List Action) : Type 0 where
  pub line : member_is_sound m ≡ true
  pub kind : is_ramping m.kind ≡ true
  pub few : length actions ≤ most_actions
  pub within : AllWithin (first_standard actions) actions

pub hour_within : (m : Member) (actions : List Action) → (ramping m actions).number ≡ 0 → Accepted m actions
unfolding ramping hour_refused hour_paid
hour_within m actions h =
    let p = turns (not (member_is_sound m)) (not (is_ramping m.kind)) (ltb (first_bad_action actions) (length actions)) (first_bad_action actions) (hour_grains m.rated.0 actions) h in
    let q = none_bad actions (ltb-false (first_bad_action actions) (length actions) p.2) in
    record { line = not-false _ p.0; kind = not-false _ p.1; few = q.0; within = q.1 }
  where
    turns : (t u v : Bool) (i g : ℕ) → (cond t (hour_refused 10 0) (cond u (hour_refused 12 0) (cond v (hour_refused 10 i) (hour_paid g)))).number ≡ 0
        → (t ≡ false) × (u ≡ false) × (v ≡ false)
    turns true u v i g h = absurd (omega (arith, h))
    turns false true v i g h = absurd (omega (arith, h))
    turns false false true i g h = absurd (omega (arith, h))
    turns false false false i g h = (refl, refl, refl)

pub hour_pays : (m : Member) (actions : List Action) → Accepted m actions → ramping m actions ≡ hour_paid (hour_grains m.rated.0 actions)
unfolding ramping
hour_pays m actions h = rw (h.line, h.kind, le-ltb (first_bad_action actions) (length actions) (omega (arith, bad_none actions h.few h.within)))
