-- What inner contracts speak of, and no sentence of the request: an hour with everything cleared to one numerator and one denominator, and an hour as
-- it goes. Assumes nothing.
use Rattle.std.specs.Prelude.{◌≡◌, Bool, cond, ◌&&◌, List, [], ◌∷◌, ℕ, ◌+◌, ◌-◌, ◌*◌, ◌≤◌, eqb, ltb, ℤ, pos, ◌+ℤ◌, ◌-ℤ◌, ◌*ℤ◌, length}
use Rattle.ramp.specs.declared.Action.{Action}
use Rattle.ramp.specs.declared.so_far.HourSoFar.{HourSoFar}
use Rattle.ramp.specs.Fractions.{Fraction, cut}
use Rattle.ramp.specs.Ramping.{most_actions, move_of, error_of, right_way, distance, action_is_sound, first_standard, first_unsound}

-- what an action's index gives and takes, 1,500 times its own, over standard · N
unfoldable pub given : ℕ → Action → ℕ
given N a = 900 * a.real * N + (600 - a.delay) * a.standard * N

unfoldable pub taken : Action → ℕ
taken a = 20000 * error_of a * a.standard

unfoldable pub cleared : ℕ → Action → ℤ
cleared N a = pos (given N a) -ℤ pos (taken a)

-- the same of several
unfoldable pub cleared_sum : ℕ → List Action → ℤ
cleared_sum N [] = pos 0
cleared_sum N (a ∷ actions) = cleared N a +ℤ cleared_sum N actions

-- what an hour is worth, over one denominator
unfoldable pub cleared_worth : ℕ → List Action → Fraction
cleared_worth N actions =
    record {
      numerator = pos (60 * distance actions) *ℤ cleared_sum N (right_way actions);
      denominator = first_standard actions * N * length (right_way actions);
    }

unfoldable pub cleared_grains : ℕ → List Action → ℕ
cleared_grains N actions = cond (eqb (length (right_way actions)) 0) 0 (cut (cleared_worth N actions))

-- An hour as it goes

-- a number of each action, added up
unfoldable pub add_up : (Action → ℕ) → List Action → ℕ
add_up f [] = 0
add_up f (a ∷ actions) = f a + add_up f actions

abbrev pub real_of : Action → ℕ
real_of a = a.real

abbrev pub delay_of : Action → ℕ
delay_of a = a.delay

-- the hour's standard rate, if this is its next action
unfoldable pub standard_with : HourSoFar → Action → ℕ
standard_with h a = cond (eqb h.count 0) a.standard h.standard

-- one more action is good: fewer than 60 so far, and it is sound with the hour's standard rate
unfoldable pub takes_action : HourSoFar → Action → Bool
takes_action h a = ltb h.count most_actions && action_is_sound (standard_with h a) a

-- these are good actions of one hour, and h is what they leave
pub record SoFar (actions : List Action) (h : HourSoFar) : Type 0 where
  pub most : length actions ≤ most_actions
  pub sound : first_unsound (first_standard actions) actions ≡ length actions
  pub count : h.count ≡ length actions
  pub standard : h.standard ≡ first_standard actions
  pub right : h.right ≡ length (right_way actions)
  pub distance : h.distance ≡ add_up move_of (right_way actions)
  pub error : h.error ≡ add_up error_of (right_way actions)
  pub real : h.real ≡ add_up real_of (right_way actions)
  pub delay : h.delay ≡ add_up delay_of (right_way actions)

-- h is what some good actions leave
abbrev pub Goes : HourSoFar → Type 0
Goes h = (actions : List Action) × SoFar actions h

-- what its right-way actions' indices give and take together, and over what: standard · N · their number
unfoldable pub given_so_far : ℕ → HourSoFar → ℕ
given_so_far N h = (900 * h.real + (600 * h.right - h.delay) * h.standard) * N

unfoldable pub taken_so_far : HourSoFar → ℕ
taken_so_far h = 20000 * h.error * h.standard

unfoldable pub over_so_far : ℕ → HourSoFar → ℕ
over_so_far N h = h.standard * N * h.right

-- no index gives more: 900 for each of 100 times the standard rate, and 600
abbrev pub most_index : ℕ
most_index = 90600
