-- What the loops over the hours come to: how many have an action, and their grains together. Assumes nothing.
use Rattle.std.proofs.Common.{◌≡◌, ℕ, suc, ◌+◌, ◌<◌, ◌≤◌, Bool, true, false, cond, not, eqb, List, [], ◌∷◌, length, get_or, drop, sym, ap, ◌∙◌, refl, count_by, add-one, arith}
use Rattle.std.proofs.Common.{drop_of_length-le, drop-cons}
use Rattle.units.specs.declared.Grains.{Grains}
use Rattle.units.specs.Money.{most_grains, grains_plus}
use Rattle.std.proofs.lemmas.List.Recursion.{is_count_by}
use Rattle.hours.specs.Hours.{hours_with, grains_sum}

-- How many hours

pub with_is : (ns : List ℕ) → hours_with ns ≡ count_by (λ n. not (eqb n 0)) ns
unfolding hours_with
with_is ns = is_count_by (λ l. hours_with l) (λ n. not (eqb n 0)) refl (λ n l. one (hours_with l) (eqb n 0)) ns
  where
    one : (k : ℕ) (t : Bool) → cond t k (suc k) ≡ cond (not t) (1 + k) k
    one k true = refl
    one k false = omega arith

-- Their grains

abbrev none : Grains
none = record { 0 = 0 }

pub sum_most : (gs : List Grains) → grains_sum gs ≤ most_grains
unfolding grains_sum grains_plus
sum_most [] = omega arith
sum_most (g ∷ gs) = omega arith

pub plus_regroup : (a b c : ℕ) → grains_plus (grains_plus a b) c ≡ grains_plus a (grains_plus b c)
unfolding grains_plus
plus_regroup a b c = omega arith

pub plus_most : (a b c : ℕ) → c ≡ grains_plus a b → c ≤ most_grains
unfolding grains_plus
plus_most a b c e = omega (arith, e)

pub sum_starts : (gs : List Grains) → grains_plus 0 (grains_sum gs) ≡ grains_sum gs
unfolding grains_plus
sum_starts gs = omega (arith, sum_most gs)

pub sum_on : (gs : List Grains) (i sum : ℕ) → i < length gs → grains_plus sum (grains_sum (drop i gs)) ≡ grains_sum gs
    → grains_plus (grains_plus sum (get_or gs i none).0) (grains_sum (drop (i + 1) gs)) ≡ grains_sum gs
unfolding grains_sum
sum_on gs i sum h k =
    let next : drop i gs ≡ get_or gs i none ∷ drop (i + 1) gs = rw (add-one) (drop-cons gs i none h) in
    plus_regroup sum (get_or gs i none).0 (grains_sum (drop (i + 1) gs)) ∙ ap (λ (l : List Grains). grains_plus sum (grains_sum l)) (sym next) ∙ k

pub sum_end : (gs : List Grains) (i sum : ℕ) → sum ≤ most_grains → length gs ≤ i → grains_plus sum (grains_sum (drop i gs)) ≡ grains_sum gs → sum ≡ grains_sum gs
unfolding grains_sum grains_plus
sum_end gs i sum b h k = let e = ap (λ (l : List Grains). grains_sum l) (drop_of_length-le gs h) in omega (arith, e, k, b)
