-- What an hour's sums pay is what its actions do. Assumes nothing.
use mathlib.Core.Path.{◌≡◌, refl, sym, ◌∙◌, ap}
use mathlib.Core.List.{List, [], ◌∷◌}
use Prim.Native.Nat.{ℕ, suc, ◌+◌, ◌-◌, ◌*◌, ◌/◌, ◌%◌, ◌≤◌, ◌<◌}
use native.Mathlib.Nat.{mul-le-mul, mul-le-mul_left, mul-le-mul_right, div-add-mod', zero-div, div-le_of_le-mul, mul-pos}
use native.Mathlib.Omega.{arith}
use lib.Arith.{digits_div}
use lib.ListN.{length}
use borrow.Author.Tests.{eq-eqb, ne_eqb}
use Rattle.pay.specs.Member.{most_rated}
use Rattle.product.specs.Product.{Parts}
use Rattle.ramp.specs.declared.Action.{Action}
use Rattle.ramp.specs.declared.so_far.HourSoFar.{HourSoFar}
use Rattle.ramp.specs.Ramping.{most_actions, most_power, move_of, error_of, right_way, moves, distance, first_standard, hour_grains}
use Rattle.ramp.specs.Inner.{given, taken, add_up, real_of, delay_of, SoFar, Goes, given_so_far, taken_so_far, over_so_far, most_index}
use Rattle.ramp.proofs.Worth.{cut_worth}
use Rattle.ramp.proofs.Within.{AllWithin, right_within}
use Rattle.ramp.proofs.Cleared.{given_all, taken_all, worth_hour, all_some}
use Rattle.ramp.proofs.Sound.{all_within}
use Rattle.ramp.proofs.Going.{Bounds, bounds}

-- Sums of indices by sums of rates, delays and errors

moves_are : (actions : List Action) → moves actions ≡ add_up move_of actions
unfolding moves add_up
moves_are [] = refl
moves_are (a ∷ actions) = ap (λ (n : ℕ). move_of a + n) (moves_are actions)

module _ (N standard : ℕ) where
  given_all_lem : (actions : List Action) → AllWithin standard actions
      → given_all N actions + add_up delay_of actions * (standard * N) ≡ 900 * add_up real_of actions * N + 600 * length actions * (standard * N)
  unfolding given_all given add_up
  given_all_lem [] w = omega arith
  given_all_lem (a ∷ actions) w =
      step a.real a.delay (600 - a.delay) a.standard (given_all N actions) (add_up real_of actions) (add_up delay_of actions) (length actions) (omega (arith, w.0.delay)) w.0.one_rate
      (given_all_lem actions w.1)
    where
      step : (r d c s G R D L : ℕ) → c + d ≡ 600 → s ≡ standard → G + D * (standard * N) ≡ 900 * R * N + 600 * L * (standard * N)
          → 900 * r * N + c * s * N + G + (d + D) * (standard * N) ≡ 900 * (r + R) * N + 600 * suc L * (standard * N)
      step r d c s G R D L e p q = omega (arith, q, ap (λ (n : ℕ). n * (standard * N)) e, ap (λ (n : ℕ). c * n * N) p)

  taken_all_lem : (actions : List Action) → AllWithin standard actions → taken_all actions ≡ 20000 * add_up error_of actions * standard
  unfolding taken_all taken add_up
  taken_all_lem [] w = omega arith
  taken_all_lem (a ∷ actions) w = omega (arith, taken_all_lem actions w.1, ap (λ (n : ℕ). 20000 * error_of a * n) w.0.one_rate)

-- How large they are

module _ (h : HourSoFar) (goes : Goes h) where
  b : Bounds h
  b = bounds h goes

  pub n_most : h.distance * 60 ≤ 60 * most_actions * most_power
  n_most = omega (arith, b.distance, b.right)

  pub right_most : h.right ≤ most_actions
  right_most = b.right

  pub rates_most : 900 * h.real ≤ 54000000000
  rates_most = omega (arith, b.real, b.right)

  pub delay_le : h.delay ≤ 600 * h.right
  delay_le = omega (arith, b.delay)

  pub early_most : (600 * h.right - h.delay) * h.standard ≤ 36000000000
  early_most = mul-le-mul {n₂ = 36000} {m₂ = 1000000} (omega (arith, b.right)) b.standard

  pub errors_most : 20000 * h.error ≤ 6000000000000
  errors_most = omega (arith, b.error, b.right)

  pub taken_most : 20000 * h.error * h.standard ≤ 6000000000000000000
  taken_most = mul-le-mul {n₂ = 6000000000000} {m₂ = 1000000} errors_most b.standard

  module _ (N : ℕ) (small : N ≤ most_rated) where
    pub given_most : (900 * h.real + (600 * h.right - h.delay) * h.standard) * N ≤ 360000000000000000
    given_most = mul-le-mul {n₂ = 90000000000} {m₂ = 4000000} (omega (arith, rates_most, early_most)) small

    pub rated_most : h.standard * N ≤ 4000000000000
    rated_most = mul-le-mul {n₂ = 1000000} {m₂ = 4000000} b.standard small

    pub over_most : h.standard * N * h.right ≤ 240000000000000
    over_most = mul-le-mul {n₂ = 4000000000000} {m₂ = 60} rated_most b.right

  pub over_less : (N : ℕ) → N ≤ most_rated → over_so_far N h ≤ 240000000000000
  unfolding over_so_far
  over_less N small = over_most N small

  pub over_some : (N : ℕ) → 1 ≤ N → 0 < h.right → 0 < over_so_far N h
  unfolding over_so_far
  over_some N p r = mul-pos (mul-pos (b.some r) p) r

  -- what is given is at most the most index times what it is over
  pub worth_most : (N : ℕ) → given_so_far N h ≤ most_index * over_so_far N h
  unfolding given_so_far over_so_far
  worth_most N =
      let p : 900 * h.real + (600 * h.right - h.delay) * h.standard ≤ most_index * (h.standard * h.right) =
      omega (arith, b.over, mul-le-mul_right h.standard (early (600 * h.right) h.delay))
      in
      omega (arith, mul-le-mul_right N p)
    where
      early : (x d : ℕ) → x - d ≤ x
      early x d = omega arith

-- What they pay

pub whole_most : (n worth all : ℕ) → 0 < all → n ≤ 60 * most_actions * most_power → worth ≤ most_index * all → n * (worth / all) ≤ 60 * most_actions * most_power * most_index
whole_most n worth all h p q = mul-le-mul {m₂ = most_index} p (div-le_of_le-mul all (omega arith))

pub split_over : (n worth all q r : ℕ) → 0 < all → Parts (n * (worth % all)) all q r → n * (worth / all) + q ≡ n * worth / all
split_over n worth all q r h p =
    sym (digits_div (n * (worth / all) + q) p.small) ∙ ap (λ (x : ℕ). x / all) (omega (arith, p.sum, ap (λ (x : ℕ). n * x) (div-add-mod' worth all)))

module _ (N : ℕ) (actions : List Action) (h : HourSoFar) (s : SoFar actions h) (some : 1 ≤ N) where
  abbrev standard : ℕ
  standard = first_standard actions

  within : AllWithin standard actions
  within = all_within standard actions s.sound

  right_ones : AllWithin standard (right_way actions)
  right_ones = right_within standard actions within

  given_is : given_all N (right_way actions) ≡ given_so_far N h
  unfolding given_so_far
  given_is =
      let e : 600 * h.right - h.delay + h.delay ≡ 600 * h.right = omega (arith, delay_le h (actions, s)) in
      cleared (600 * h.right - h.delay) e (rw (← s.right, ← s.real, ← s.delay, ← s.standard) at (given_all_lem N standard (right_way actions) right_ones))
    where
      cleared : (c : ℕ) → c + h.delay ≡ 600 * h.right
          → given_all N (right_way actions) + h.delay * (h.standard * N) ≡ 900 * h.real * N + 600 * h.right * (h.standard * N)
          → given_all N (right_way actions) ≡ (900 * h.real + c * h.standard) * N
      cleared c e q = omega (arith, q, ap (λ (n : ℕ). n * (h.standard * N)) e)

  taken_is : taken_all (right_way actions) ≡ taken_so_far h
  unfolding taken_so_far
  taken_is = rw (s.error, s.standard) (taken_all_lem N standard (right_way actions) right_ones)

  over_is : standard * N * length (right_way actions) ≡ over_so_far N h
  unfolding over_so_far
  over_is = rw (s.right, s.standard) refl

  distance_is : distance actions ≡ h.distance
  unfolding distance
  distance_is = moves_are (right_way actions) ∙ sym s.distance

  -- no right-way action
  pub pays_none : h.right ≡ 0 → 0 ≡ hour_grains N actions
  unfolding hour_grains
  pays_none e = rw (eq-eqb (length (right_way actions)) 0 (sym s.right ∙ e)) refl

  pays_some : 0 < h.right → hour_grains N actions ≡ (60 * h.distance * given_so_far N h - 60 * h.distance * taken_so_far h) / over_so_far N h
  unfolding hour_grains
  pays_some l =
      let p : 0 < length (right_way actions) = omega (arith, s.right) in
      let w = worth_hour N actions some within p in
      rw (ne_eqb (length (right_way actions)) 0 (λ e. omega arith)) (cut_worth w (all_some N actions some within p) ∙ rw (distance_is, given_is, taken_is, over_is) refl)

  -- a mean of zero or below
  pub pays_less : 0 < h.right → given_so_far N h ≤ taken_so_far h → 0 ≡ hour_grains N actions
  pays_less l m =
      let z : 60 * h.distance * given_so_far N h - 60 * h.distance * taken_so_far h ≡ 0 = omega (arith, mul-le-mul_left (60 * h.distance) m) in
      sym (pays_some l ∙ ap (λ (x : ℕ). x / over_so_far N h) z ∙ zero-div (over_so_far N h))

  -- a mean above zero
  pub pays_more : 0 < h.right → taken_so_far h < given_so_far N h → h.distance * 60 * (given_so_far N h - taken_so_far h) / over_so_far N h ≡ hour_grains N actions
  pays_more l m = sym (pays_some l ∙ ap (λ (x : ℕ). x / over_so_far N h) (apart (given_so_far N h - taken_so_far h) (omega arith)))
    where
      apart : (w : ℕ) → w + taken_so_far h ≡ given_so_far N h → 60 * h.distance * given_so_far N h - 60 * h.distance * taken_so_far h ≡ h.distance * 60 * w
      apart w e = omega (arith, ap (λ (x : ℕ). 60 * h.distance * x) e)
