-- Actions that are all within the limits, of one standard rate. Assumes nothing.
use mathlib.Core.Bool.{Bool, true, false, cond}
use mathlib.Core.List.{List, [], ◌∷◌}
use Prim.Native.Nat.{ℕ, ◌<◌}
use native.Mathlib.Nat.{not-suc-le-zero}
use native.Mathlib.Omega.{arith}
use lib.ListN.{length}
use Rattle.ramp.specs.declared.Action.{Action}
use Rattle.ramp.specs.Ramping.{is_right_way, right_way}
use Rattle.ramp.specs.Outcomes.{ActionWithin}

-- each of them is
abbrev pub AllWithin : ℕ → List Action → Type 0
AllWithin standard [] = Unit {0}
AllWithin standard (a ∷ actions) = ActionWithin standard a × AllWithin standard actions

pub right_within : (standard : ℕ) (actions : List Action) → AllWithin standard actions → AllWithin standard (right_way actions)
unfolding right_way
right_within standard [] w = tt
right_within standard (a ∷ actions) w = go (is_right_way a) (right_within standard actions w.1)
  where
    go : (t : Bool) → AllWithin standard (right_way actions) → AllWithin standard (cond t (a ∷ right_way actions) (right_way actions))
    go true r = (w.0, r)
    go false r = r

-- their standard rate is not zero
pub rate_some : (standard : ℕ) (a : Action) → ActionWithin standard a → 0 < standard
rate_some standard a w = omega (arith, w.some_rate, w.one_rate)

pub standard_some : (standard : ℕ) (actions : List Action) → AllWithin standard actions → 0 < length actions → 0 < standard
standard_some standard [] w h = absurd (not-suc-le-zero h)
standard_some standard (a ∷ actions) w h = rate_some standard a w.0
