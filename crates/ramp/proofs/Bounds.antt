-- How large an hour's sums and its grains can be. Assumes nothing.
use mathlib.Core.Path.{◌≡◌, refl, ap}
use mathlib.Core.Bool.{Bool, true, false, cond}
use mathlib.Core.List.{List, [], ◌∷◌}
use Prim.Native.Nat.{ℕ, suc, ◌-◌, ◌*◌, ◌≤◌, ◌<◌}
use native.Mathlib.Nat.{mul-le-mul_left, mul-le-mul_right, le_trans, div-le_of_le-mul}
use native.Mathlib.Omega.{arith}
use lib.Dec.{eqb}
use lib.ListN.{length}
use borrow.Author.Tests.{eqb-false}
use Rattle.ramp.specs.declared.Action.{Action}
use Rattle.ramp.specs.Fractions.{cut}
use Rattle.ramp.specs.Ramping.{most_actions, most_power, apart, move_of, error_of, is_right_way, right_way, moves, distance, hour_worth, hour_grains, first_standard}
use Rattle.ramp.specs.Outcomes.{ActionWithin}
use Rattle.ramp.specs.Inner.{given}
use Rattle.ramp.proofs.Worth.{cut_worth}
use Rattle.ramp.proofs.Within.{AllWithin, right_within}
use Rattle.ramp.proofs.Cleared.{given_all, taken_all, worth_hour, all_some}

-- An action

apart_most : (p q k : ℕ) → p ≤ k → q ≤ k → apart p q ≤ k
unfolding apart
apart_most p q k h i = omega arith

module _ (standard : ℕ) (a : Action) (w : ActionWithin standard a) where
  pub move_most : move_of a ≤ most_power
  unfolding move_of
  move_most = apart_most a.start.0 a.end.0 most_power w.powers.0 w.powers.1

  pub error_most : error_of a ≤ most_power
  unfolding error_of
  error_most = apart_most a.end.0 a.command.0 most_power w.powers.1 w.powers.2

  -- an index is at most 60.4
  pub index_most : (N : ℕ) → given N a ≤ 90600 * (standard * N)
  unfolding given
  index_most N =
      let c : 600 - a.delay ≤ 600 = omega arith in
      omega (arith, mul-le-mul_right N w.real, mul-le-mul_right (a.standard * N) c, ap (λ n. n * N) w.one_rate)

-- Several

-- each at most so much, their sum is at most so much times their number
pub moves_most : (standard : ℕ) (actions : List Action) → AllWithin standard actions → moves actions ≤ length actions * most_power
unfolding moves
moves_most standard [] w = omega arith
moves_most standard (a ∷ actions) w = omega (arith, move_most standard a w.0, moves_most standard actions w.1)

index_all : (standard N : ℕ) (actions : List Action) → AllWithin standard actions → given_all N actions ≤ length actions * (90600 * (standard * N))
unfolding given_all
index_all standard N [] w = omega arith
index_all standard N (a ∷ actions) w = omega (arith, index_most standard a w.0 N, index_all standard N actions w.1)

-- An hour

pub right_le : (actions : List Action) → length (right_way actions) ≤ length actions
unfolding right_way
right_le [] = omega arith
right_le (a ∷ actions) = go (is_right_way a) (right_le actions)
  where
    go : (t : Bool) → length (right_way actions) ≤ length actions → length (cond t (a ∷ right_way actions) (right_way actions)) ≤ suc (length actions)
    go true h = omega arith
    go false h = omega arith

pub distance_most : (standard : ℕ) (actions : List Action) → AllWithin standard actions → distance actions ≤ length (right_way actions) * most_power
unfolding distance
distance_most standard actions w = moves_most standard (right_way actions) (right_within standard actions w)

-- THE MOST AN HOUR CAN PAY: 60 actions of 5,000,000 kW at an index of 60.4
abbrev pub most_hour : ℕ
most_hour = 1630800000000000

pub grains_most : (N : ℕ) (actions : List Action) → 0 < N → length actions ≤ most_actions → AllWithin (first_standard actions) actions → hour_grains N actions ≤ most_hour
unfolding hour_grains
grains_most N actions h few w = go (eqb (length (right_way actions)) 0) refl
  where
    go : (t : Bool) → eqb (length (right_way actions)) 0 ≡ t → cond t 0 (cut (hour_worth N actions)) ≤ most_hour
    go true e = omega arith
    go false e =
        let right = right_way actions in
        let s = first_standard actions in
        let some : 0 < length right = omega (arith, eqb-false (length right) 0 e) in
        let n : ℕ = 60 * distance actions in
        let far : distance actions ≤ 300000000 = omega (arith, distance_most s actions w, right_le actions) in
        let i : given_all N right ≤ length right * (90600 * (s * N)) = index_all s N right (right_within s actions w) in
        let m : n * given_all N right - n * taken_all right ≤ s * N * length right * (n * 90600) = omega (arith, mul-le-mul_left n i) in
        rw (cut_worth (worth_hour N actions h w some) (all_some N actions h w some)) (le_trans (div-le_of_le-mul (s * N * length right) m) (omega arith))
