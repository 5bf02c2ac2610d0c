-- Promises of an hour: rounded down once, the most it can pay. Assumes nothing.
use mathlib.Core.Path.{◌≡◌, refl, sym, ◌∙◌, ap, subst}
use mathlib.Core.Logic.{◌⊎◌, inl, inr}
use mathlib.Core.Bool.{Bool, true, false, cond, not}
use mathlib.Core.List.{List}
use Prim.Native.Nat.{ℕ, ◌+◌, ◌*◌, ◌≤◌, ◌<◌}
use native.Mathlib.Nat.{div-mul-le_self, lt-div-mul-add}
use native.Mathlib.Omega.{arith}
use lib.Dec.{ltb}
use lib.IntN.{ℤ, pos, negsuc}
use lib.ListN.{length}
use borrow.Author.Tests.{eq-eqb, ne_eqb}
use Rattle.pay.specs.declared.Member.{Member}
use Rattle.pay.specs.Member.{member_is_sound}
use Rattle.pay.proofs.Within.{line_of}
use Rattle.ramp.specs.declared.Action.{Action}
use Rattle.ramp.specs.declared.Hour.{Hour}
use Rattle.ramp.specs.Fractions.{Fraction, whole_of, cut}
use Rattle.ramp.specs.Ramping.{is_ramping, right_way, hour_worth, hour_grains, first_bad_action, hour_refused, hour_paid, ramping}
use Rattle.ramp.proofs.Cleared.{worth_hour}
use Rattle.ramp.proofs.Bounds.{most_hour, grains_most}
use Rattle.ramp.proofs.Accepted.{hour_within, hour_pays}

-- Rounded down once

-- these grains are the amount x rounded down: at most it and less than one below it; 0 where it is below zero
pub data RoundedDown (x : Fraction) (grains : ℕ) : Type 0 where
  floor : (n : ℕ) → x.numerator ≡ pos n → grains * x.denominator ≤ n → n < (grains + 1) * x.denominator → RoundedDown x grains
  below_zero : (n : ℕ) → x.numerator ≡ negsuc n → grains ≡ 0 → RoundedDown x grains

cut_rounded : (x : Fraction) → 0 < x.denominator → RoundedDown x (cut x)
unfolding cut
cut_rounded x h = go x.numerator refl
  where
    go : (z : ℤ) → x.numerator ≡ z → RoundedDown x (whole_of z x.denominator)
    go (pos n) e = floor n e (div-mul-le_self n x.denominator) (omega (arith, lt-div-mul-add {a = n} h))
    go (negsuc n) e = below_zero n e refl

paid : (m : Member) (actions : List Action) → (ramping m actions).number ≡ 0 → (ramping m actions).grains.0 ≡ hour_grains m.rated.0 actions
unfolding hour_paid
paid m actions h = ap (λ r. r.grains.0) (hour_pays m actions (hour_within m actions h))

rated : (m : Member) (actions : List Action) → (ramping m actions).number ≡ 0 → 0 < m.rated.0
rated m actions h = (line_of m (hour_within m actions h).line).rated.0

-- ROUNDED DOWN ONCE: an accepted hour with a right-way action pays its exact worth rounded down to a grain, 0 where that is below zero
pub hour_floor : (m : Member) (actions : List Action) → (ramping m actions).number ≡ 0 → 0 < length (right_way actions)
    → RoundedDown (hour_worth m.rated.0 actions) (ramping m actions).grains.0
unfolding hour_grains
hour_floor m actions h some =
    let N = m.rated.0 in
    let x = hour_worth N actions in
    let e : hour_grains N actions ≡ cut x = rw (ne_eqb (length (right_way actions)) 0 (λ q. omega arith)) in
    let r = cut_rounded x (worth_hour N actions (rated m actions h) (hour_within m actions h).within some).divides in
    subst (RoundedDown x) (sym (paid m actions h ∙ e)) r

-- NO RIGHT-WAY ACTION pays nothing, whether or not there are actions
pub no_right_way : (m : Member) (actions : List Action) → (ramping m actions).number ≡ 0 → length (right_way actions) ≡ 0 → (ramping m actions).grains.0 ≡ 0
unfolding hour_grains
no_right_way m actions h none = paid m actions h ∙ rw (eq-eqb (length (right_way actions)) 0 none)

-- The most

-- a refusal pays nothing
pub accepted_or_nothing : (m : Member) (actions : List Action) → ((ramping m actions).number ≡ 0) ⊎ ((ramping m actions).grains.0 ≡ 0)
unfolding ramping hour_refused hour_paid
accepted_or_nothing m actions =
    go (not (member_is_sound m)) (not (is_ramping m.kind)) (ltb (first_bad_action actions) (length actions)) (first_bad_action actions) (hour_grains m.rated.0 actions)
  where
    turned : (t u v : Bool) (i g : ℕ) → Hour
    turned t u v i g = cond t (hour_refused 10 0) (cond u (hour_refused 12 0) (cond v (hour_refused 10 i) (hour_paid g)))

    go : (t u v : Bool) (i g : ℕ) → ((turned t u v i g).number ≡ 0) ⊎ ((turned t u v i g).grains.0 ≡ 0)
    go true u v i g = inr refl
    go false true v i g = inr refl
    go false false true i g = inr refl
    go false false false i g = inl refl

-- THE MOST AN HOUR PAYS, accepted or not: 1,630,800,000,000,000 grains
pub hour_most : (m : Member) (actions : List Action) → (ramping m actions).grains.0 ≤ most_hour
hour_most m actions = go (accepted_or_nothing m actions)
  where
    go : ((ramping m actions).number ≡ 0) ⊎ ((ramping m actions).grains.0 ≡ 0) → (ramping m actions).grains.0 ≤ most_hour
    go (inl h) =
        let a = hour_within m actions h in
        omega (arith, paid m actions h, grains_most m.rated.0 actions (rated m actions h) a.few a.within)
    go (inr e) = omega arith
