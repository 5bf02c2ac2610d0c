-- Ramping of ordinary units (004, article 16, as request 3 has it): the control actions of one hour, and what they pay. N is rated kW. Assumes nothing.
use Rattle.std.specs.Prelude.{Bool, cond, not, ◌&&◌, ◌||◌, List, [], ◌∷◌, map, ℕ, suc, ◌+◌, ◌-◌, ◌*◌, min, eqb, ltb, leb, length}
use Rattle.pay.specs.declared.Member.{Member}
use Rattle.pay.specs.Member.{member_is_sound}
use Rattle.pay.specs.Kinds.{coal, gas, hydro}
use Rattle.ramp.specs.declared.Action.{Action}
use Rattle.ramp.specs.declared.Hour.{Hour}
use Rattle.ramp.specs.Fractions.{Fraction, fraction, plus, less, times, mean, cut}

-- Limits

-- an hour has at most 60 actions
abbrev pub most_actions : ℕ
most_actions = 60

-- powers are at most 5,000,000 kW, a delay 300 seconds, rates 1,000,000 kW a minute, the real rate 100 times the standard
abbrev pub most_power : ℕ
most_power = 5000000

abbrev pub most_delay : ℕ
most_delay = 300

abbrev pub most_ramp_rate : ℕ
most_ramp_rate = 1000000

abbrev pub most_over_standard : ℕ
most_over_standard = 100

-- An action

-- how far two powers are apart, either side
unfoldable pub apart : ℕ → ℕ → ℕ
apart p q = (p - q) + (q - p)

-- its end is on the commanded side of its start; any other is wrong-way, one that stays where it was too
unfoldable pub is_right_way : Action → Bool
is_right_way a =
    ltb a.start.0 a.command.0 && ltb a.start.0 a.end.0
    || ltb a.command.0 a.start.0 && ltb a.end.0 a.start.0

-- its move, start to end
unfoldable pub move_of : Action → ℕ
move_of a = apart a.start.0 a.end.0

-- its error, end against command
unfoldable pub error_of : Action → ℕ
error_of a = apart a.end.0 a.command.0

-- k1: the real over the standard rate
unfoldable pub k1 : Action → Fraction
k1 a = fraction a.real a.standard

-- k2: one less delay over 300 seconds
unfoldable pub k2 : Action → Fraction
k2 a = less (fraction 1 1) (fraction a.delay 300)

-- k3: one less error over 1.5% of rating, which is 15 N over 1,000
unfoldable pub k3 : ℕ → Action → Fraction
k3 N a = less (fraction 1 1) (fraction (1000 * error_of a) (15 * N))

-- the index: 0.2 × (3 k1 + k2 + k3)
unfoldable pub index : ℕ → Action → Fraction
index N a = times (fraction 1 5) (plus (plus (times (fraction 3 1) (k1 a)) (k2 a)) (k3 N a))

-- An hour

-- its right-way actions
unfoldable pub right_way : List Action → List Action
right_way [] = []
right_way (a ∷ actions) = cond (is_right_way a) (a ∷ right_way actions) (right_way actions)

-- moves added up
unfoldable pub moves : List Action → ℕ
moves [] = 0
moves (a ∷ actions) = move_of a + moves actions

-- distance is the sum of the right-way actions' moves
unfoldable pub distance : List Action → ℕ
distance actions = moves (right_way actions)

-- the mean index, over the right-way actions alone
unfoldable pub mean_index : ℕ → List Action → Fraction
mean_index N actions = mean (map (index N) (right_way actions))

-- what an hour is worth to the last fraction: 90,000 grains per kW of distance times the mean index
unfoldable pub hour_worth : ℕ → List Action → Fraction
hour_worth N actions = times (fraction (90000 * distance actions) 1) (mean_index N actions)

-- WHAT AN HOUR PAYS: its worth rounded down to a grain, once; a mean below zero or no right-way action pays 0
unfoldable pub hour_grains : ℕ → List Action → ℕ
hour_grains N actions = cond (eqb (length (right_way actions)) 0) 0 (cut (hour_worth N actions))

-- Refusals

-- coal, gas and hydro units
unfoldable pub is_ramping : ℕ → Bool
is_ramping kind = eqb kind coal || eqb kind gas || eqb kind hydro

-- an action within its limits, of the hour's standard rate
unfoldable pub action_is_sound : ℕ → Action → Bool
action_is_sound standard a =
    not (eqb a.standard 0) && eqb a.standard standard && not (eqb a.command.0 a.start.0)
    && leb a.start.0 most_power && leb a.end.0 most_power && leb a.command.0 most_power
    && leb a.delay most_delay && leb a.real most_ramp_rate && leb a.standard most_ramp_rate
    && leb a.real (most_over_standard * a.standard)

-- the hour's standard rate is its first action's
unfoldable pub first_standard : List Action → ℕ
first_standard [] = 0
first_standard (a ∷ actions) = a.standard

-- an action of zeros, which is never sound
unfoldable pub no_action : Action
no_action = record { start = record { 0 = 0 }; end = record { 0 = 0 }; command = record { 0 = 0 }; delay = 0; real = 0; standard = 0 }

-- the place of the first action that is not sound, or their number where all are
unfoldable pub first_unsound : ℕ → List Action → ℕ
first_unsound standard [] = 0
first_unsound standard (a ∷ actions) = cond (action_is_sound standard a) (suc (first_unsound standard actions)) 0

-- the place of the first bad action: the first that is not sound, or a 61st
unfoldable pub first_bad_action : List Action → ℕ
first_bad_action actions = min (first_unsound (first_standard actions) actions) most_actions

-- a refusal gives number and place, otherwise zeros
unfoldable pub hour_refused : ℕ → ℕ → Hour
hour_refused number place = record { number = number; place = place; grains = record { 0 = 0 } }

unfoldable pub hour_paid : ℕ → Hour
hour_paid grains = record { number = 0; place = 0; grains = record { 0 = grains } }

-- AN HOUR IS SCORED: 10 for the register line, 12 for another kind, then 10 at the first bad action
unfoldable pub ramping : Member → List Action → Hour
ramping m actions =
    cond (not (member_is_sound m)) (hour_refused 10 0)
    (cond (not (is_ramping m.kind)) (hour_refused 12 0)
    (cond (ltb (first_bad_action actions) (length actions)) (hour_refused 10 (first_bad_action actions))
    (hour_paid (hour_grains m.rated.0 actions))))
