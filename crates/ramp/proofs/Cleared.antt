-- An hour by fractions and the same with everything cleared to one numerator and one denominator pay the same grains. Assumes nothing.
use mathlib.Core.Path.{◌≡◌, refl, sym, ◌∙◌, ap}
use mathlib.Core.Bool.{Bool, true, false, cond}
use mathlib.Core.List.{List, [], ◌∷◌, map}
use Prim.Native.Nat.{ℕ, ◌+◌, ◌-◌, ◌*◌, ◌<◌}
use native.Mathlib.Nat.{mul-pos}
use native.Mathlib.Omega.{arith}
use lib.Dec.{eqb}
use lib.IntN.{pos, ◌-ℤ◌, ◌*ℤ◌}
use lib.ListN.{length, length-map}
use borrow.Author.Tests.{eqb-false}
use Rattle.ramp.specs.declared.Action.{Action}
use Rattle.ramp.specs.Fractions.{fraction, times, sum, mean, cut}
use Rattle.ramp.specs.Ramping.{error_of, k1, k2, k3, index, right_way, distance, mean_index, hour_worth, hour_grains, first_standard}
use Rattle.ramp.specs.Outcomes.{ActionWithin}
use Rattle.ramp.specs.Inner.{given, taken, cleared, cleared_sum, cleared_worth, cleared_grains}
use Rattle.ramp.proofs.Worth.{up, down, added, taken_off, multiplied, Worth, worth_fraction, worth_itself, worth_over, worth_cancel, worth_as, worth_plus, worth_less, worth_times, cut_worth}
use Rattle.ramp.proofs.Within.{AllWithin, right_within, standard_some}

-- An action's index

worth_k1 : (N : ℕ) (a : Action) → 0 < a.standard → Worth (times (fraction 3 1) (k1 a)) (900 * a.real * N) 0 (300 * a.standard * N)
unfolding k1
worth_k1 N a h =
    worth_as (900 * a.real * N) 0 (300 * a.standard * N)
    (worth_over (300 * N) (worth_times 3 1 (omega arith) (worth_fraction a.real a.standard h))) (omega arith) (omega arith)

worth_k2 : (N : ℕ) (a : Action) → Worth (k2 a) (300 * a.standard * N) (a.delay * a.standard * N) (300 * a.standard * N)
unfolding k2
worth_k2 N a =
    worth_as (300 * a.standard * N) (a.delay * a.standard * N) (300 * a.standard * N)
    (worth_over (a.standard * N) (worth_less (worth_over 300 (worth_fraction 1 1 (omega arith))) (worth_fraction a.delay 300 (omega arith)))) (omega arith) (omega arith)

worth_k3 : (N : ℕ) (a : Action) → 0 < N → Worth (k3 N a) (300 * a.standard * N) (taken a) (300 * a.standard * N)
unfolding k3 taken
worth_k3 N a h =
    let all : ℕ = 300 * a.standard * N in
    let one = worth_as all 0 all (worth_over all (worth_fraction 1 1 (omega arith))) (omega arith) (omega arith) in
    let off = worth_as (20000 * error_of a * a.standard) 0 all (worth_over (20 * a.standard) (worth_fraction (1000 * error_of a) (15 * N) (omega arith))) (omega arith) (omega arith) in
    worth_as all (20000 * error_of a * a.standard) all (worth_less one off) refl (omega arith)

-- THE INDEX: given less taken, over 1,500 times standard · N
pub worth_index : (N standard : ℕ) (a : Action) → 0 < N → ActionWithin standard a → Worth (index N a) (given N a) (taken a) (1500 * standard * N)
unfolding index given
worth_index N standard a h w =
    let s : 0 < a.standard = omega (arith, w.some_rate) in
    worth_as (900 * a.real * N + (600 - a.delay) * a.standard * N) (taken a) (1500 * standard * N)
    (worth_times 1 5 (omega arith) (worth_plus (worth_plus (worth_k1 N a s) (worth_k2 N a)) (worth_k3 N a h)))
    (omega (arith, ap (λ n. 1500 * n * N) w.one_rate))
    (far (900 * a.real * N) a.delay (600 - a.delay) (taken a) (omega (arith, w.delay)))
  where
    far : (f d c t : ℕ) → c + d ≡ 600 → 1 * (f + 300 * a.standard * N + 300 * a.standard * N) + t ≡ f + c * a.standard * N + 1 * (0 + d * a.standard * N + t)
    far f d c t e = omega (arith, ap (λ n. n * (a.standard * N)) e)

-- Several

-- what their indices give and take, added up
unfoldable pub given_all : ℕ → List Action → ℕ
given_all N [] = 0
given_all N (a ∷ actions) = given N a + given_all N actions

unfoldable pub taken_all : List Action → ℕ
taken_all [] = 0
taken_all (a ∷ actions) = taken a + taken_all actions

worth_sum : (N standard : ℕ) (actions : List Action) → 0 < N → AllWithin standard actions
    → Worth (sum (map (index N) actions)) (given_all N actions) (taken_all actions) (1500 * standard * N)
unfolding sum given_all taken_all
worth_sum N standard [] h w = worth_as 0 0 (1500 * standard * N) (worth_over (1500 * standard * N) (worth_fraction 0 1 (omega arith))) (omega arith) (omega arith)
worth_sum N standard (a ∷ actions) h w = worth_plus (worth_index N standard a h w.0) (worth_sum N standard actions h w.1)

pub sum_apart : (N : ℕ) (actions : List Action) → up (cleared_sum N actions) + taken_all actions ≡ down (cleared_sum N actions) + given_all N actions
unfolding cleared cleared_sum given_all taken_all
sum_apart N [] = refl
sum_apart N (a ∷ actions) =
    omega (arith, added (pos (given N a) -ℤ pos (taken a)) (cleared_sum N actions), taken_off (pos (given N a)) (pos (taken a)), sum_apart N actions)

-- An hour

module _ (N : ℕ) (actions : List Action) (h : 0 < N) (w : AllWithin (first_standard actions) actions) (some : 0 < length (right_way actions)) where
  -- the two are worth the same
  pub worth_hour : Worth (hour_worth N actions) (60 * distance actions * given_all N (right_way actions)) (60 * distance actions * taken_all (right_way actions))
      (first_standard actions * N * length (right_way actions))
  unfolding hour_worth mean_index mean
  worth_hour =
      let s = first_standard actions in
      let right = right_way actions in
      let count = length (map (index N) right) in
      let e : count ≡ length right = length-map right (index N) in
      let mean-worth = worth_times 1 count (omega arith) (worth_sum N s right h (right_within s actions w)) in
      worth_cancel 1500 (omega arith) (worth_as (60 * distance actions * given_all N right * 1500) (60 * distance actions * taken_all right * 1500) (s * N * length right * 1500)
      (worth_times (90000 * distance actions) 1 (omega arith) mean-worth) (omega (arith, ap (λ n. s * N * n) e)) (omega arith))

  pub worth_cleared : Worth (cleared_worth N actions) (60 * distance actions * given_all N (right_way actions)) (60 * distance actions * taken_all (right_way actions))
      (first_standard actions * N * length (right_way actions))
  unfolding cleared_worth
  worth_cleared =
      let n : ℕ = 60 * distance actions in
      let right = right_way actions in
      let z = cleared_sum N right in
      worth_itself (pos n *ℤ z) (n * given_all N right) (n * taken_all right) (first_standard actions * N * length right)
      (mul-pos (mul-pos (standard_some (first_standard actions) right (right_within (first_standard actions) actions w) some) h) some)
      (far n (up (pos n *ℤ z)) (down (pos n *ℤ z)) (up z) (down z) (given_all N right) (taken_all right) (multiplied n z).0 (multiplied n z).1 (sum_apart N right))
    where
      far : (n U D p q f g : ℕ) → U ≡ n * p → D ≡ n * q → p + g ≡ q + f → U + n * g ≡ D + n * f
      far n U D p q f g a b c = omega (arith, a, b, ap (λ m. n * m) c)

  pub all_some : 0 < first_standard actions * N * length (right_way actions)
  unfolding cleared_worth
  all_some = worth_cleared.divides

-- THE SAME GRAINS: the definition, by fractions, is what is computed over one denominator
pub cleared_is : (N : ℕ) (actions : List Action) → 0 < N → AllWithin (first_standard actions) actions → hour_grains N actions ≡ cleared_grains N actions
unfolding hour_grains cleared_grains
cleared_is N actions h w = go (eqb (length (right_way actions)) 0) refl
  where
    go : (t : Bool) → eqb (length (right_way actions)) 0 ≡ t → cond t 0 (cut (hour_worth N actions)) ≡ cond t 0 (cut (cleared_worth N actions))
    go true e = refl
    go false e =
        let some : 0 < length (right_way actions) = omega (arith, eqb-false (length (right_way actions)) 0 e) in
        let all = all_some N actions h w some in
        cut_worth (worth_hour N actions h w some) all ∙ sym (cut_worth (worth_cleared N actions h w some) all)
