-- With the whole part sharing is what it was without a part; with no part nothing is shared. Assumes nothing.
use mathlib.Core.Path.{◌≡◌, refl, sym, ap, ◌∙◌}
use mathlib.Core.Bool.{Bool, true, false, cond}
use mathlib.Core.List.{List}
use mathlib.Core.Logic.{◌≢◌}
use Prim.Native.Nat.{ℕ, min, ◌/◌, ◌<◌}
use native.Mathlib.Nat.{mul-zero, mul-div_cancel}
use native.Mathlib.Omega.{arith}
use lib.Dec.{ltb, lit<}
use lib.IntN.{ℤ, pos, nat_abs, ◌-ℤ◌, +ℤ_invr, +ℤ_idr}
use lib.ListN.{length, get_or, take}
use Rattle.apportion.specs.Apportion.{apportion}
use Rattle.share.specs.declared.Line.{Line}
use Rattle.share.specs.declared.Answer.{Answer}
use Rattle.share.specs.Sharing.{compensated, below, gap, generators_amount, generators_gap, user_amount, weights, Part, parts_by, parts, most_number, most_compensation, most_part}
use Rattle.share.specs.Sharing.{SharingOutcome, sharing_refused, sharing_accepted, settled, sharing_in_turn, sharing, signed}
use Rattle.share.specs.Forms.{fill_in, array_of, shared_array, answer_of, Lent}
use Rattle.share.specs.Verdict.{SharingVerdict, above, ten, more, fifteen, sixteen, shared}
use Rattle.share.specs.Without.{parts_without, weightless_without, OutcomeWithout, refused_without, accepted_without, settled_without, in_turn_without, sharing_without, counted_without}
use Rattle.share.proofs.Signs.{signed_none}
use Rattle.share.proofs.Promises.{signed_gap, user_is, zero_gap}
use Rattle.share.proofs.Refusals.{verdict}

-- an outcome without a part, and a user's amount of 0
abbrev pub no_user : OutcomeWithout → SharingOutcome
no_user o = record { number = o.number; place = o.place; gap = o.gap; user = pos 0; parts = o.parts }

-- The whole part

-- the generators' R is the whole R ..
whole_amount : (ls : List Line) → generators_amount most_part ls ≡ nat_abs (gap ls)
unfolding generators_amount
whole_amount ls = mul-div_cancel (nat_abs (gap ls)) {n = most_part} (lit< tt)

-- .. and nothing is left for the user
no_user_lem : (ls : List Line) → user_amount most_part ls ≡ pos 0
unfolding user_amount
no_user_lem ls = ap (λ (z : ℤ). gap ls -ℤ z) (ap (signed (below ls)) (whole_amount ls) ∙ signed_gap ls) ∙ +ℤ_invr (gap ls)

whole_parts : (ls : List Line) → parts most_part ls ≡ parts_without ls
unfolding parts parts_without
whole_parts ls = ap (λ (n : ℕ). parts_by (below ls) ls (apportion n (weights ls))) (whole_amount ls)

whole_accepted : (ls : List Line) → sharing_accepted most_part ls ≡ no_user (accepted_without ls)
whole_accepted ls = λ i. record { number = 0; place = 0; gap = gap ls; user = no_user_lem ls i; parts = whole_parts ls i }

whole_settled : (ls : List Line) → settled most_part ls ≡ no_user (settled_without ls)
unfolding settled settled_without
whole_settled ls = rw (whole_amount ls) (go (ltb most_compensation (compensated ls)) (weightless_without ls))
  where
    go : (b w : Bool) → cond b (sharing_refused 15 0) (cond w (sharing_refused 16 0) (sharing_accepted most_part ls))
        ≡ no_user (cond b (refused_without 15 0) (cond w (refused_without 16 0) (accepted_without ls)))
    go true w = refl
    go false true = refl
    go false false = whole_accepted ls

pub whole_turn : (bad count : ℕ) (ls : List Line) → sharing_in_turn most_part bad count ls ≡ no_user (in_turn_without bad count ls)
unfolding sharing_in_turn in_turn_without
whole_turn bad count ls = go (ltb bad (min count most_number)) (ltb most_number count)
  where
    go : (a m : Bool) → cond a (sharing_refused 10 bad) (cond m (sharing_refused 10 most_number) (settled most_part ls))
        ≡ no_user (cond a (refused_without 10 bad) (cond m (refused_without 10 most_number) (settled_without ls)))
    go true m = refl
    go false true = refl
    go false false = whole_settled ls

-- WITH THE WHOLE PART sharing is what it was without one, and the user's amount is 0:
pub whole_part : (ls : List Line) → sharing most_part ls ≡ no_user (sharing_without ls)
whole_part ls = whole_turn _ (length ls) ls

-- in the array form,
pub whole_part_array : (lines : List Line) (count : ℕ) → shared_array most_part lines count ≡ array_of lines (no_user (counted_without lines count))
unfolding shared_array
whole_part_array lines count = ap (array_of lines) (whole_turn _ count (take count lines))

-- and in the lent list.
pub whole_part_lent : (before after : List Line) (r : Answer) → Lent most_part before after r
    → (r ≡ answer_of (no_user (sharing_without before))) × (after ≡ fill_in (sharing_without before).parts before)
whole_part_lent before after r l =
    (l.says ∙ ap answer_of (whole_part before), l.lines ∙ ap (λ (o : SharingOutcome). fill_in o.parts before) (whole_part before))

-- No part

no_generators : (ls : List Line) → generators_gap 0 ls ≡ pos 0
unfolding generators_amount
no_generators ls = ap (λ (n : ℕ). signed (below ls) (n / most_part)) (mul-zero (nat_abs (gap ls))) ∙ signed_none (below ls)

-- WITH NO PART 16 never comes,
pub no_part_no_16 : (ls : List Line) → (sharing 0 ls).number ≢ 16
no_part_no_16 ls e = go (verdict 0 ls)
  where
    number_of_lem : {o : SharingOutcome} → sharing 0 ls ≡ o → o.number ≡ 16
    number_of_lem i = sym (ap (λ (o : SharingOutcome). o.number) i) ∙ e

    go : SharingVerdict 0 ls (sharing 0 ls) → ⊥
    go (above h i) = omega (arith, number_of_lem i)
    go (ten q p few f i) = omega (arith, number_of_lem i)
    go (more q m s i) = omega (arith, number_of_lem i)
    go (fifteen q a c i) = omega (arith, number_of_lem i)
    go (sixteen q a c g w i) = g (no_generators ls)
    go (shared q a c w i) = omega (arith, number_of_lem i)

-- no line has a share,
pub no_part_no_share : (ls : List Line) → (sharing 0 ls).number ≡ 0 → (i : ℕ) (p : Part) → i < length ls → (get_or (sharing 0 ls).parts i p).share ≡ pos 0
no_part_no_share ls none i p h = zero_gap 0 ls none (no_generators ls) i p h

-- and the user's amount is R.
pub no_part_user : (ls : List Line) → (sharing 0 ls).number ≡ 0 → (sharing 0 ls).user ≡ gap ls
unfolding user_amount
no_part_user ls none = user_is 0 ls none ∙ ap (λ (z : ℤ). gap ls -ℤ z) (no_generators ls) ∙ +ℤ_idr (gap ls)
