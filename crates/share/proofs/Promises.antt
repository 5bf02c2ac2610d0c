-- What sharing promises of every list of lines that it does not refuse.
use mathlib.Core.Path.{◌≡◌, refl, sym, ap, ◌∙◌, subst}
use mathlib.Core.Bool.{Bool, true, false}
use mathlib.Core.List.{List, [], ◌∷◌, ◌++◌, map}
use mathlib.Core.Logic.{inl, inr}
use Prim.Native.Nat.{ℕ, zero, suc, ◌+◌, ◌-◌, ◌≤◌, ◌<◌}
use native.Mathlib.Omega.{arith}
use lib.IntN.{ℤ, pos, negsuc, neg_ℤ, nat_abs, ◌+ℤ◌, ◌-ℤ◌, ◌*ℤ◌, +ℤ_assoc, +ℤ_comm, +ℤ_idl, +ℤ_idr, -ℤ-+ℤ_cancel}
use lib.ListN.{length, get_or, length-map, get_or-map}
use Rattle.apportion.specs.Apportion.{total, apportion}
use Rattle.apportion.proofs.Promises.{Shareable, adds_up, less_than_one, nothing}
use Rattle.apportion.proofs.Loops.{get_d_total}
use Rattle.share.specs.declared.Line.{Line}
use Rattle.share.specs.Sharing.{assessment_fen, compensated, assessed, below, gap, generators_amount, generators_gap, user_amount, weight_of, weights, all_weights, signed}
use Rattle.share.specs.Sharing.{Part, part_of, parts_by, parts, SharingOutcome, sharing, most_compensation, most_part}
use Rattle.share.specs.Forms.{blank_line}
use Rattle.share.specs.Limits.{LineWithin, LinesWithin}
use Rattle.share.proofs.Lists.{get_d_mapped}
use Rattle.share.proofs.Signs.{signed_add, signed_none, signed_near, signed_diff, signed_rest, abs_signed, none_signed, nat_abs_neg, abs_most, amount_down, amount_up, by_parts, opposite}
use Rattle.share.proofs.Generators.{generators_le}
use Rattle.share.proofs.Lines.{part_at}
use Rattle.share.proofs.Bounds.{all_within, fen_le, assessed_le}
use Rattle.share.proofs.Cases.{bad_of_64}
use Rattle.share.proofs.Outcomes.{taken_list, long_shares}

-- the sum of signed numbers
abbrev pub sumℤ : List ℤ → ℤ
sumℤ [] = pos 0
sumℤ (z ∷ zs) = z +ℤ sumℤ zs

abbrev pub shares : SharingOutcome → List ℤ
shares o = map (λ p. p.share) o.parts

abbrev pub amounts : SharingOutcome → List ℤ
amounts o = map (λ p. p.amount) o.parts

-- the amounts of all lines, and last the user's
abbrev pub all_amounts : SharingOutcome → List ℤ
all_amounts o = amounts o ++ (o.user ∷ [])

-- a part of a number has its sign, or is zero
pub data SignOf (whole some : ℤ) : Type 0 where
  neither : some ≡ pos 0 → SignOf whole some
  over : (n m : ℕ) → whole ≡ pos (suc n) → some ≡ pos (suc m) → SignOf whole some
  under : (n m : ℕ) → whole ≡ negsuc n → some ≡ negsuc m → SignOf whole some

pub sum_last : (zs : List ℤ) (z : ℤ) → sumℤ (zs ++ (z ∷ [])) ≡ sumℤ zs +ℤ z
sum_last [] z = +ℤ_idr z ∙ sym (+ℤ_idl z)
sum_last (y ∷ zs) z = ap (λ (x : ℤ). y +ℤ x) (sum_last zs z) ∙ sym (+ℤ_assoc y (sumℤ zs) z)

-- a number that is as large and has the sign of another's part
sign_of : (is_below : Bool) (n m : ℕ) → m ≤ n → SignOf (signed is_below n) (signed is_below m)
sign_of is_below n zero h = neither (signed_none is_below)
sign_of is_below zero (suc m) h = absurd (omega arith)
sign_of false (suc n) (suc m) h = over n m refl refl
sign_of true (suc n) (suc m) h = under n m refl refl

shares_total : (is_below : Bool) (ls : List Line) (ss : List ℕ) → length ss ≡ length ls → sumℤ (map (λ p. p.share) (parts_by is_below ls ss)) ≡ signed is_below (total ss)
shares_total is_below [] [] h = sym (signed_none is_below)
shares_total is_below [] (s ∷ ss) h = absurd (omega arith)
shares_total is_below (l ∷ ls) [] h = absurd (omega arith)
shares_total is_below (l ∷ ls) (s ∷ ss) h = ap (λ (z : ℤ). signed is_below s +ℤ z) (shares_total is_below ls ss (omega arith)) ∙ signed_add is_below s (total ss)

amounts_total : (is_below : Bool) (ls : List Line) (ss : List ℕ) → length ss ≡ length ls
    → sumℤ (map (λ p. p.amount) (parts_by is_below ls ss)) ≡ pos (compensated ls) -ℤ pos (assessed ls) +ℤ signed is_below (total ss)
amounts_total is_below [] [] h = rw (signed_none is_below)
amounts_total is_below [] (s ∷ ss) h = absurd (omega arith)
amounts_total is_below (l ∷ ls) [] h = absurd (omega arith)
amounts_total is_below (l ∷ ls) (s ∷ ss) h =
    let f : ℤ = neg_ℤ (pos (assessment_fen l)) in
    let fs : ℤ = neg_ℤ (pos (assessed ls)) in
    ap (λ (z : ℤ). pos l.compensation.0 +ℤ f +ℤ signed is_below s +ℤ z) (amounts_total is_below ls ss (omega arith))
    ∙ by_parts (pos l.compensation.0) f (signed is_below s) (pos (compensated ls)) fs (signed is_below (total ss))
    ∙ ap (λ (z : ℤ). pos (l.compensation.0 + compensated ls) +ℤ z +ℤ (signed is_below s +ℤ signed is_below (total ss))) (sym (neg_sum (assessment_fen l) (assessed ls)))
    ∙ ap (λ (z : ℤ). pos (l.compensation.0 + compensated ls) -ℤ pos (assessment_fen l + assessed ls) +ℤ z) (signed_add is_below s (total ss))
  where
    neg_sum : (a b : ℕ) → neg_ℤ (pos (a + b)) ≡ neg_ℤ (pos a) +ℤ neg_ℤ (pos b)
    neg_sum a b = sym (signed_add true a b)

pub signed_gap : (ls : List Line) → signed (below ls) (nat_abs (gap ls)) ≡ gap ls
unfolding gap
signed_gap ls = signed_diff (assessed ls) (compensated ls)

-- what a line within its limits gets, if it carries at most 10^11 fen
part_small : (is_below : Bool) (l : Line) (s : ℕ) → LineWithin l → s ≤ most_compensation
    → (nat_abs (part_of is_below l s).share ≤ 100000000000) × (nat_abs (part_of is_below l s).amount ≤ 200000000000)
part_small false l s w h =
    (h, rw (← amount_up l.compensation.0 (assessment_fen l) s) (abs_most (l.compensation.0 + s) (assessment_fen l) 200000000000 (omega (arith, w.compensation)) (omega (arith, fen_le l w))))
part_small true l s w h = (
  rw (nat_abs_neg (pos s)) h,
  rw (← amount_down l.compensation.0 (assessment_fen l) s)
      (abs_most l.compensation.0 (assessment_fen l + s) 200000000000 (omega (arith, w.compensation)) (omega (arith, fen_le l w))),
)

-- THE TWO PARTS OF R: the generators' R and the user's amount add up to it,
pub parts_of_gap : (part : ℕ) (ls : List Line) → generators_gap part ls +ℤ user_amount part ls ≡ gap ls
unfolding user_amount
parts_of_gap part ls = +ℤ_comm (generators_gap part ls) (gap ls -ℤ generators_gap part ls) ∙ -ℤ-+ℤ_cancel (gap ls) (generators_gap part ls)

-- the user's amount is what is left, with the sign of R
user_rest : (part : ℕ) (ls : List Line) → part ≤ most_part → user_amount part ls ≡ signed (below ls) (nat_abs (gap ls) - generators_amount part ls)
unfolding user_amount
user_rest part ls h =
    ap (λ (z : ℤ). z -ℤ generators_gap part ls) (sym (signed_gap ls)) ∙ sym (signed_rest (below ls) (nat_abs (gap ls)) (generators_amount part ls) (generators_le part ls h))

-- and each has the sign of R, or is zero.
pub signs_of_gap : (part : ℕ) (ls : List Line) → part ≤ most_part → SignOf (gap ls) (generators_gap part ls) × SignOf (gap ls) (user_amount part ls)
signs_of_gap part ls h = (
  subst (λ (z : ℤ). SignOf z (generators_gap part ls)) (signed_gap ls) (sign_of (below ls) (nat_abs (gap ls)) (generators_amount part ls) (generators_le part ls h)),
  rw (user_rest part ls h)
      (subst (λ (z : ℤ). SignOf z (signed (below ls) (nat_abs (gap ls) - generators_amount part ls))) (signed_gap ls)
      (sign_of (below ls) (nat_abs (gap ls)) (nat_abs (gap ls) - generators_amount part ls) (omega arith))),
)

module _ (part : ℕ) (ls : List Line) (none : (sharing part ls).number ≡ 0) where
  -- R is A − C,
  pub gap_is : (sharing part ls).gap ≡ gap ls
  gap_is = ap (λ (o : SharingOutcome). o.gap) (taken_list part ls none).is

  -- and the user's amount what the generators' R leaves of it.
  pub user_is : (sharing part ls).user ≡ user_amount part ls
  user_is = ap (λ (o : SharingOutcome). o.user) (taken_list part ls none).is

  parts_is : (sharing part ls).parts ≡ parts part ls
  parts_is = ap (λ (o : SharingOutcome). o.parts) (taken_list part ls none).is

  -- The shares add up to the generators' R,
  pub adds_to_generators : sumℤ (shares (sharing part ls)) ≡ generators_gap part ls
  unfolding parts
  adds_to_generators =
      ap (λ (ps : List Part). sumℤ (map (λ p. p.share) ps)) parts_is
      ∙ shares_total (below ls) ls _ (long_shares (generators_amount part ls) ls)
      ∙ ap (λ (n : ℕ). signed (below ls) n) (adds_up (generators_amount part ls) (weights ls) (taken_list part ls none).way)

  -- and with the user's amount to R.
  pub adds_to_gap : sumℤ (shares (sharing part ls)) +ℤ (sharing part ls).user ≡ gap ls
  adds_to_gap = rw (adds_to_generators, user_is) (parts_of_gap part ls)

  lines_total : sumℤ (amounts (sharing part ls)) ≡ pos (compensated ls) -ℤ pos (assessed ls) +ℤ generators_gap part ls
  unfolding parts
  lines_total =
      ap (λ (ps : List Part). sumℤ (map (λ p. p.amount) ps)) parts_is
      ∙ amounts_total (below ls) ls _ (long_shares (generators_amount part ls) ls)
      ∙ ap (λ (n : ℕ). pos (compensated ls) -ℤ pos (assessed ls) +ℤ signed (below ls) n) (adds_up (generators_amount part ls) (weights ls) (taken_list part ls none).way)

  -- All amounts add up to zero, the user's among them.
  pub adds_to_zero_lem : sumℤ (all_amounts (sharing part ls)) ≡ pos 0
  unfolding gap
  adds_to_zero_lem =
      sum_last (amounts (sharing part ls)) (sharing part ls).user
      ∙ ap (λ (z : ℤ). z +ℤ (sharing part ls).user) lines_total
      ∙ ap (λ (z : ℤ). pos (compensated ls) -ℤ pos (assessed ls) +ℤ generators_gap part ls +ℤ z) user_is
      ∙ +ℤ_assoc (pos (compensated ls) -ℤ pos (assessed ls)) (generators_gap part ls) (user_amount part ls)
      ∙ ap (λ (z : ℤ). pos (compensated ls) -ℤ pos (assessed ls) +ℤ z) (parts_of_gap part ls)
      ∙ opposite (pos (compensated ls)) (pos (assessed ls))

  abbrev shared : List ℕ
  shared = apportion (generators_amount part ls) (weights ls)

  -- what the line at a place gets
  share_is : (i : ℕ) (p : Part) → i < length ls → (get_or (sharing part ls).parts i p).share ≡ signed (below ls) (get_or shared i 0)
  unfolding parts
  share_is i p h =
      ap (λ (ps : List Part). (get_or ps i p).share) parts_is
      ∙ ap (λ (q : Part). q.share) (part_at (below ls) ls shared i blank_line p (long_shares (generators_amount part ls) ls) h)

  -- the line at a place gets its part of the generators' R
  line_part : (i : ℕ) (d : Line) (p : Part) → i < length ls → get_or (sharing part ls).parts i p ≡ part_of (below ls) (get_or ls i d) (get_or shared i 0)
  unfolding parts
  line_part i d p h =
      ap (λ (ps : List Part). get_or ps i p) parts_is
      ∙ part_at (below ls) ls shared i d p (long_shares (generators_amount part ls) ls) h

  lines_within : LinesWithin ls
  lines_within =
      let t = taken_list part ls none in
      let b = bad_of_64 ls in
      all_within 0 ls (omega (arith, t.sound, b.0))

  -- R is at most 10^11 fen, whatever its sign,
  pub gap_most : nat_abs (gap ls) ≤ most_compensation
  unfolding gap
  gap_most =
      let t = taken_list part ls none in
      abs_most (assessed ls) (compensated ls) most_compensation (omega (arith, assessed_le ls lines_within, t.few)) t.within

  -- and so is the user's amount.
  pub user_within : nat_abs (sharing part ls).user ≤ most_compensation
  user_within =
      let left = nat_abs (gap ls) - generators_amount part ls in
      omega (arith, gap_most, ap nat_abs (user_is ∙ user_rest part ls (taken_list part ls none).fair), abs_signed (below ls) left)

  part_most : (i : ℕ) → get_or shared i 0 ≤ most_compensation
  part_most i =
      omega (arith, get_d_total shared i, adds_up (generators_amount part ls) (weights ls) (taken_list part ls none).way, generators_le part ls (taken_list part ls none).fair, gap_most)

  -- A line's amount is its compensation less its assessment, and its share.
  pub amount_is : (i : ℕ) (d : Line) (p : Part) → i < length ls
      → (get_or (sharing part ls).parts i p).amount ≡ pos (get_or ls i d).compensation.0 -ℤ pos (assessment_fen (get_or ls i d)) +ℤ (get_or (sharing part ls).parts i p).share
  amount_is i d p h = rw (line_part i d p h)

  -- A share is at most 10^11 fen, an amount at most twice that, whatever the sign.
  pub part_within : (i : ℕ) (p : Part) → i < length ls
      → (nat_abs (get_or (sharing part ls).parts i p).share ≤ 100000000000) × (nat_abs (get_or (sharing part ls).parts i p).amount ≤ 200000000000)
  part_within i p h =
      rw (line_part i blank_line p h)
      (part_small (below ls) (get_or ls i blank_line) _ (lines_within i blank_line h) (part_most i))

  -- Where the generators' R is 0 no line has a share.
  pub zero_gap : generators_gap part ls ≡ pos 0 → (i : ℕ) (p : Part) → i < length ls → (get_or (sharing part ls).parts i p).share ≡ pos 0
  zero_gap e i p h =
      share_is i p h ∙ ap (λ (n : ℕ). signed (below ls) (get_or (apportion n (weights ls)) i 0)) (none_signed (below ls) _ e)
      ∙ ap (λ (ss : List ℕ). signed (below ls) (get_or ss i 0)) (nothing (weights ls))
      ∙ ap (signed (below ls)) (get_or-map {B = ℕ} (λ (w : ℕ). 0) (weights ls) i 0) ∙ signed_none (below ls)

  -- The one-fen rule: share times the sum of weights lies less than that sum away from the generators' R times the line's weight.
  pub one_fen : (i : ℕ) (d : Line) (p : Part) → 0 < all_weights ls → i < length ls
      → nat_abs ((get_or (sharing part ls).parts i p).share *ℤ pos (all_weights ls) -ℤ generators_gap part ls *ℤ pos (weight_of (below ls) (get_or ls i d))) < all_weights ls
  one_fen i d p some h =
      let n = generators_amount part ls in
      let near = less_than_one n (weights ls) i some (rw (length-map ls (λ (l : Line). weight_of (below ls) l)) h) in
      rw (share_is i p h, ← get_d_mapped (λ (l : Line). weight_of (below ls) l) ls i d 0 h)
      (signed_near (below ls) n (get_or (apportion n (weights ls)) i 0) (get_or (weights ls) i 0) (all_weights ls) near.0 near.1)

  -- Where the sum of weights is 0, the generators' R is 0 with it, and the rule says only that the share is 0.
  pub one_fen_none : (i : ℕ) (p : Part) → all_weights ls ≡ 0 → i < length ls → (generators_gap part ls ≡ pos 0) × ((get_or (sharing part ls).parts i p).share ≡ pos 0)
  one_fen_none i p z h = go (taken_list part ls none).way
    where
      go : Shareable (generators_amount part ls) (weights ls) → (generators_gap part ls ≡ pos 0) × ((get_or (sharing part ls).parts i p).share ≡ pos 0)
      go (inl e) =
          let nothing : generators_gap part ls ≡ pos 0 = ap (signed (below ls)) e ∙ signed_none (below ls) in
          (nothing, zero_gap nothing i p h)
      go (inr some) = absurd (omega arith)
