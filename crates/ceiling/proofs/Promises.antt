-- What sharing with limits promises of every list of lines that it does not refuse.
use mathlib.Core.Path.{◌≡◌, refl, sym, ap, ◌∙◌}
use mathlib.Core.Bool.{Bool, true, false}
use mathlib.Core.List.{List, [], ◌∷◌, ◌++◌, map}
use mathlib.Core.Logic.{◌⊎◌, inl, inr}
use Prim.Native.Nat.{ℕ, zero, suc, ◌+◌, ◌-◌, ◌*◌, ◌≤◌, ◌<◌}
use native.Mathlib.Nat.{mul-le-mul}
use native.Mathlib.Decide.{dec_le, dec_lt}
use native.Mathlib.Omega.{arith}
use lib.IntN.{ℤ, pos, negsuc, neg_ℤ, nat_abs, ◌+ℤ◌, ◌-ℤ◌, ◌*ℤ◌, +ℤ_assoc, +ℤ_comm, +ℤ_idr}
use lib.ListN.{length, get_or, length-map, get_or-map}
use Rattle.apportion.specs.Apportion.{total, apportion}
use Rattle.apportion.proofs.Promises.{less_than_one, nothing, each_one, adds_up}
use Rattle.apportion.proofs.Loops.{get_d_total}
use Rattle.share.specs.declared.Line.{Line}
use Rattle.share.specs.Sharing.{most_compensation, assessment_fen, below, weight_of, all_weights, generators_gap, Part, SharingOutcome, sharing}
use Rattle.share.specs.Forms.{blank_line}
use Rattle.share.proofs.Lists.{get_d_mapped}
use Rattle.share.proofs.Signs.{diff_up, diff_down, abs_most, signed_add, by_parts}
use Rattle.share.proofs.Promises.{SignOf, neither, over, under, sumℤ, sum_last}
use Rattle.share.proofs.Promises as S
use Rattle.ceiling.specs.declared.Limit.{Limit}
use Rattle.ceiling.specs.declared.LimitedLine.{LimitedLine}
use Rattle.ceiling.specs.Ceiling.{plain_lines, paid, beyond, positive, uncollected_of, uncollected_sum, positives, given_up, CeiledPart, ceiled_part, ceiled_by, ceiled_parts}
use Rattle.ceiling.specs.Ceiling.{CeilingOutcome, ceiling}
use Rattle.ceiling.specs.Inner.{blank_limited, part_in}
use Rattle.ceiling.proofs.Signs.{paid_pos, paid_neg, positive_pos, positive_neg, positive_le, beyond_paid, beyond_le, beyond_unlimited, beyond_is}
use Rattle.ceiling.proofs.Places.{length_uncollected, uncollected_at, by_at}
use Rattle.ceiling.proofs.PastFirst.{long_parts}
use Rattle.ceiling.proofs.Outcomes.{taken_list}

-- no one gives up more than its weight, where no more than all weights is shared
share_most : (n i : ℕ) (ws : List ℕ) → n ≤ total ws → i < length ws → get_or (apportion n ws) i 0 ≤ get_or ws i 0
share_most n i ws h k = go (dec_le 1 (total ws))
  where
    go : Dec (1 ≤ total ws) → get_or (apportion n ws) i 0 ≤ get_or ws i 0
    go (yes some) = least (dec_le (get_or ws i 0 + 1) (get_or (apportion n ws) i 0))
      where
        least : Dec (get_or ws i 0 + 1 ≤ get_or (apportion n ws) i 0) → get_or (apportion n ws) i 0 ≤ get_or ws i 0
        least (no f) = omega arith
        least (yes l) =
            let g = get_or (apportion n ws) i 0 in
            let w = get_or ws i 0 in
            let all = total ws in
            let big : (w + 1) * all ≤ g * all = mul-le-mul l (omega arith) in
            let much : n * w ≤ all * w = mul-le-mul h (omega arith) in
            absurd (omega (arith, big, much, (less_than_one n ws i some k).0))
    go (no f) =
        let z : n ≡ 0 = omega arith in
        let e : get_or (apportion n ws) i 0 ≡ 0 = ap (λ (m : ℕ). get_or (apportion m ws) i 0) z ∙ ap (λ (ss : List ℕ). get_or ss i 0) (nothing ws) ∙ get_or-map {B = ℕ} (λ (w : ℕ). 0) ws i 0 in
        omega (arith, e)

-- The amount after the second sharing, over plain values

sign_up : (n m : ℕ) → m ≤ n → SignOf (pos n) (pos m)
sign_up n zero h = neither refl
sign_up zero (suc m) h = absurd (omega arith)
sign_up (suc n) (suc m) h = over n m refl refl

sign_down : (n u : ℕ) → u ≤ suc n → SignOf (negsuc n) (pos u -ℤ pos (suc n))
sign_down n u h = go (dec_lt u (suc n))
  where
    go : Dec (u < suc n) → SignOf (negsuc n) (pos u -ℤ pos (suc n))
    go (yes l) = under n (suc n - suc u) refl (diff_down u (suc n) l)
    go (no f) = neither (diff_up u (suc n) (omega arith) ∙ ap pos (omega arith))

-- of what one gets all is collected, and of what one pays nothing is given up
after_up : (l : Limit) (n g : ℕ) → g ≤ positive (pos n) → pos n +ℤ pos (beyond l (pos n)) -ℤ pos g ≡ pos (n - g)
after_up l n g h =
    let u : beyond l (pos n) ≡ 0 = omega (arith, beyond_paid l (pos n), paid_pos n) in
    ap (λ (u : ℕ). pos n +ℤ pos u -ℤ pos g) u ∙ ap (λ (z : ℤ). z -ℤ pos g) (+ℤ_idr (pos n)) ∙ diff_up n g (omega (arith, positive_pos n))

after_down : (l : Limit) (n g : ℕ) → g ≤ positive (negsuc n)
    → (negsuc n +ℤ pos (beyond l (negsuc n)) -ℤ pos g ≡ pos (beyond l (negsuc n)) -ℤ pos (suc n)) × (beyond l (negsuc n) ≤ suc n)
after_down l n g h =
    let v : g ≡ 0 = omega (arith, positive_neg n) in (
      ap (λ (g : ℕ). negsuc n +ℤ pos (beyond l (negsuc n)) -ℤ pos g) v ∙ +ℤ_idr (negsuc n +ℤ pos (beyond l (negsuc n))) ∙ +ℤ_comm (negsuc n) (pos (beyond l (negsuc n))),
      omega (arith, beyond_paid l (negsuc n), paid_neg n),
    )

-- an amount keeps its sign, or comes to zero
after_sign : (l : Limit) (z : ℤ) (g : ℕ) → g ≤ positive z → SignOf z (z +ℤ pos (beyond l z) -ℤ pos g)
after_sign l (pos n) g h = rw (after_up l n g h) (sign_up n (n - g) (omega arith))
after_sign l (negsuc n) g h = let e = after_down l n g h in rw e.0 (sign_down n (beyond l (negsuc n)) e.1)

-- what is paid after it is what was paid, less what is not collected
after_paid : (l : Limit) (z : ℤ) (g : ℕ) → g ≤ positive z → paid (z +ℤ pos (beyond l z) -ℤ pos g) ≡ paid z - beyond l z
after_paid l (pos n) g h = omega (arith, ap paid (after_up l n g h), paid_pos (n - g), paid_pos n)
after_paid l (negsuc n) g h =
    let e = after_down l n g h in
    ap paid e.0 ∙ go (beyond l (negsuc n)) e.1 (dec_lt (beyond l (negsuc n)) (suc n))
  where
    go : (u : ℕ) → u ≤ suc n → Dec (u < suc n) → paid (pos u -ℤ pos (suc n)) ≡ paid (negsuc n) - u
    go u k (yes l) = omega (arith, ap paid (diff_down u (suc n) l), paid_neg (suc n - suc u), paid_neg n)
    go u k (no f) = omega (arith, ap paid (diff_up u (suc n) (omega arith)), paid_pos (u - suc n), paid_neg n)

-- it is no larger
after_most : (l : Limit) (z : ℤ) (g : ℕ) → g ≤ positive z → nat_abs (z +ℤ pos (beyond l z) -ℤ pos g) ≤ nat_abs z
after_most l (pos n) g h = omega (arith, ap nat_abs (after_up l n g h))
after_most l (negsuc n) g h =
    let e = after_down l n g h in
    omega (arith, ap nat_abs e.0, abs_most (beyond l (negsuc n)) (suc n) (suc n) e.1 (omega arith))

-- and where it is zero or below, and no more is paid than the limit, or there is none, it stays
after_kept : (l : Limit) (z : ℤ) (g : ℕ) → g ≤ positive z → positive z ≡ 0 → beyond l z ≡ 0 → z +ℤ pos (beyond l z) -ℤ pos g ≡ z
after_kept l z g h k u =
    let v : g ≡ 0 = omega arith in
    ap (λ (u : ℕ). z +ℤ pos u -ℤ pos g) u ∙ ap (λ (g : ℕ). z +ℤ pos 0 -ℤ pos g) v ∙ +ℤ_idr (z +ℤ pos 0) ∙ +ℤ_idr z

-- nothing lies beyond where there is no limit, or no more is paid
none_beyond : (l : Limit) (z : ℤ) → (l.none ≡ true) ⊎ (paid z ≤ l.fen.0) → beyond l z ≡ 0
none_beyond l z (inl e) = sym (beyond_unlimited l z e)
none_beyond l z (inr h) = go l.none refl
  where
    go : (b : Bool) → l.none ≡ b → beyond l z ≡ 0
    go true e = sym (beyond_unlimited l z e)
    go false e = sym (beyond_is l z 0 e (omega arith))

-- Sums

-- the amounts of all lines, and last the user's
abbrev pub all_ceiled : CeilingOutcome → List ℤ
all_ceiled o = map (λ q. q.amount) o.parts ++ (o.user ∷ [])

by_total : (ps : List Part) (us gs : List ℕ) → length us ≡ length ps → length gs ≡ length ps
    → sumℤ (map (λ q. q.amount) (ceiled_by ps us gs)) ≡ sumℤ (map (λ p. p.amount) ps) +ℤ pos (total us) -ℤ pos (total gs)
by_total [] [] [] h k = refl
by_total [] (u ∷ us) gs h k = absurd (omega arith)
by_total [] [] (g ∷ gs) h k = absurd (omega arith)
by_total (p ∷ ps) [] gs h k = absurd (omega arith)
by_total (p ∷ ps) (u ∷ us) [] h k = absurd (omega arith)
by_total (p ∷ ps) (u ∷ us) (g ∷ gs) h k =
    ap (λ (z : ℤ). p.amount +ℤ pos u -ℤ pos g +ℤ z) (by_total ps us gs (omega arith) (omega arith))
    ∙ by_parts p.amount (pos u) (neg_ℤ (pos g)) (sumℤ (map (λ p. p.amount) ps)) (pos (total us)) (neg_ℤ (pos (total gs)))
    ∙ ap (λ (z : ℤ). p.amount +ℤ sumℤ (map (λ p. p.amount) ps) +ℤ pos (u + total us) +ℤ z) (signed_add true g (total gs))

by_uncollected : (ps : List Part) (us gs : List ℕ) → length us ≡ length ps → length gs ≡ length ps → map (λ q. q.uncollected) (ceiled_by ps us gs) ≡ us
by_uncollected [] [] gs h k = refl
by_uncollected [] (u ∷ us) gs h k = absurd (omega arith)
by_uncollected (p ∷ ps) [] gs h k = absurd (omega arith)
by_uncollected (p ∷ ps) (u ∷ us) [] h k = absurd (omega arith)
by_uncollected (p ∷ ps) (u ∷ us) (g ∷ gs) h k = ap (λ (xs : List ℕ). u ∷ xs) (by_uncollected ps us gs (omega arith) (omega arith))

by_given : (ps : List Part) (us gs : List ℕ) → length us ≡ length ps → length gs ≡ length ps → map (λ q. q.given) (ceiled_by ps us gs) ≡ gs
by_given [] us [] h k = refl
by_given [] us (g ∷ gs) h k = absurd (omega arith)
by_given (p ∷ ps) [] gs h k = absurd (omega arith)
by_given (p ∷ ps) (u ∷ us) [] h k = absurd (omega arith)
by_given (p ∷ ps) (u ∷ us) (g ∷ gs) h k = ap (λ (xs : List ℕ). g ∷ xs) (by_given ps us gs (omega arith) (omega arith))

there_and_back : (z : ℤ) (n : ℕ) → z +ℤ pos n -ℤ pos n ≡ z
there_and_back z n = +ℤ_assoc z (pos n) (neg_ℤ (pos n)) ∙ ap (λ (y : ℤ). z +ℤ y) (diff_up n n (omega arith) ∙ ap pos (omega arith)) ∙ +ℤ_idr z

way : (n all : ℕ) → n ≤ all → (n ≡ 0) ⊎ (0 < all)
way n all h = go (dec_le 1 n)
  where
    go : Dec (1 ≤ n) → (n ≡ 0) ⊎ (0 < all)
    go (yes some) = inr (omega arith)
    go (no f) = inl (omega arith)

module _ (part : ℕ) (ls : List LimitedLine) (none : (ceiling part ls).number ≡ 0) where
  abbrev pub first : SharingOutcome
  first = sharing part (plain_lines ls)

  long : length first.parts ≡ length ls
  long = long_parts part (plain_lines ls) (taken_list part ls none).first ∙ length-map ls (λ (l : LimitedLine). l.line)

  parts_is : (ceiling part ls).parts ≡ ceiled_parts ls first.parts
  unfolding ceiling
  parts_is = ap (λ (o : CeilingOutcome). o.parts) (taken_list part ls none).is

  -- R and the user's amount are the first sharing's
  pub gap_kept : (ceiling part ls).gap ≡ first.gap
  unfolding ceiling
  gap_kept = ap (λ (o : CeilingOutcome). o.gap) (taken_list part ls none).is

  pub user_kept : (ceiling part ls).user ≡ first.user
  unfolding ceiling
  user_kept = ap (λ (o : CeilingOutcome). o.user) (taken_list part ls none).is

  long_uncollected : length (uncollected_of ls first.parts) ≡ length first.parts
  long_uncollected = length_uncollected ls first.parts long ∙ sym long

  long_given : length (given_up ls first.parts) ≡ length first.parts
  unfolding given_up
  long_given = each_one (uncollected_sum ls first.parts) (positives first.parts) ∙ length-map first.parts (λ (p : Part). positive p.amount)

  all_given : total (given_up ls first.parts) ≡ uncollected_sum ls first.parts
  unfolding given_up
  all_given =
      adds_up (uncollected_sum ls first.parts) (positives first.parts) (way (uncollected_sum ls first.parts) (total (positives first.parts)) (taken_list part ls none).room)

  -- what the line at a place gets
  pub line_gets : (i : ℕ) (c : CeiledPart) (p : Part) → i < length ls
      → get_or (ceiling part ls).parts i c ≡ ceiled_part (get_or first.parts i p) (get_or (uncollected_of ls first.parts) i 0) (get_or (given_up ls first.parts) i 0)
  unfolding ceiled_parts
  line_gets i c p h =
      ap (λ (ps : List CeiledPart). get_or ps i c) parts_is
      ∙ by_at first.parts (uncollected_of ls first.parts) (given_up ls first.parts) i p c long_uncollected long_given (omega (arith, long))

  -- no one gives up more than its positive amount
  pub gives_up : (i : ℕ) (p : Part) → i < length ls → get_or (given_up ls first.parts) i 0 ≤ positive (get_or first.parts i p).amount
  unfolding given_up
  gives_up i p h =
      let k : i < length first.parts = omega (arith, long) in
      omega (
        arith,
        share_most (uncollected_sum ls first.parts) i (positives first.parts) (taken_list part ls none).room
            (rw (length-map first.parts (λ (p : Part). positive p.amount)) k),
        get_d_mapped (λ (p : Part). positive p.amount) first.parts i p 0 k,
      )

  pub given_most : (i : ℕ) (c : CeiledPart) (p : Part) → i < length ls → (get_or (ceiling part ls).parts i c).given ≤ positive (get_or first.parts i p).amount
  given_most i c p h = omega (arith, ap (λ (q : CeiledPart). q.given) (line_gets i c p h), gives_up i p h)

  -- what the amount at a place comes to
  amount_after : (i : ℕ) (d : LimitedLine) (c : CeiledPart) (p : Part) → i < length ls
      → (get_or (ceiling part ls).parts i c).amount
      ≡ (get_or first.parts i p).amount +ℤ pos (beyond (get_or ls i d).limit (get_or first.parts i p).amount) -ℤ pos (get_or (given_up ls first.parts) i 0)
  amount_after i d c p h = rw (line_gets i c p h, uncollected_at ls first.parts i d p long h)

  uncollected_is : (i : ℕ) (d : LimitedLine) (c : CeiledPart) (p : Part) → i < length ls
      → (get_or (ceiling part ls).parts i c).uncollected ≡ beyond (get_or ls i d).limit (get_or first.parts i p).amount
  uncollected_is i d c p h = ap (λ (q : CeiledPart). q.uncollected) (line_gets i c p h) ∙ uncollected_at ls first.parts i d p long h

  -- NO AMOUNT TAKES THE OPPOSITE SIGN: it keeps its sign, or comes to zero,
  pub sign_kept : (i : ℕ) (c : CeiledPart) (p : Part) → i < length ls → SignOf (get_or first.parts i p).amount (get_or (ceiling part ls).parts i c).amount
  sign_kept i c p h =
      rw (amount_after i blank_limited c p h)
      (after_sign (get_or ls i blank_limited).limit (get_or first.parts i p).amount (get_or (given_up ls first.parts) i 0) (gives_up i p h))

  -- so nobody's positive amount turns negative: who paid nothing pays nothing.
  pub none_below : (i : ℕ) (c : CeiledPart) (p : Part) → i < length ls → paid (get_or first.parts i p).amount ≡ 0 → paid (get_or (ceiling part ls).parts i c).amount ≡ 0
  none_below i c p h z =
      omega (
        arith,
        ap paid (amount_after i blank_limited c p h),
        after_paid (get_or ls i blank_limited).limit (get_or first.parts i p).amount (get_or (given_up ls first.parts) i 0) (gives_up i p h),
      )

  -- NOBODY PAYS MORE THAN THE LIMIT.
  pub within_limit : (i : ℕ) (d : LimitedLine) (c : CeiledPart) → i < length ls → (get_or ls i d).limit.none ≡ false
      → paid (get_or (ceiling part ls).parts i c).amount ≤ (get_or ls i d).limit.fen.0
  within_limit i d c h t =
      let z = (get_or first.parts i (part_in blank_line)).amount in
      omega (
        arith,
        ap paid (amount_after i d c (part_in blank_line) h),
        after_paid (get_or ls i d).limit z (get_or (given_up ls first.parts) i 0) (gives_up i (part_in blank_line) h),
        beyond_is (get_or ls i d).limit z _ t refl,
      )

  -- WHAT LIES BEYOND A LIMIT IS NOT COLLECTED, that and no more: what is paid in the first sharing, less the limit;
  pub beyond_uncollected : (i : ℕ) (d : LimitedLine) (c : CeiledPart) (p : Part) → i < length ls → (get_or ls i d).limit.none ≡ false
      → (get_or (ceiling part ls).parts i c).uncollected ≡ paid (get_or first.parts i p).amount - (get_or ls i d).limit.fen.0
  beyond_uncollected i d c p h t = uncollected_is i d c p h ∙ sym (beyond_is (get_or ls i d).limit (get_or first.parts i p).amount _ t refl)

  -- of a member without a limit, or who pays no more than it, all is collected;
  pub all_collected : (i : ℕ) (d : LimitedLine) (c : CeiledPart) (p : Part) → i < length ls
      → ((get_or ls i d).limit.none ≡ true) ⊎ (paid (get_or first.parts i p).amount ≤ (get_or ls i d).limit.fen.0)
      → (get_or (ceiling part ls).parts i c).uncollected ≡ 0
  all_collected i d c p h w = uncollected_is i d c p h ∙ none_beyond (get_or ls i d).limit (get_or first.parts i p).amount w

  -- and each line pays what it pays in the first sharing less that: who would pay more than the limit pays exactly the limit.
  pub paid_less : (i : ℕ) (c : CeiledPart) (p : Part) → i < length ls
      → paid (get_or (ceiling part ls).parts i c).amount + (get_or (ceiling part ls).parts i c).uncollected ≡ paid (get_or first.parts i p).amount
  paid_less i c p h =
      let l = (get_or ls i blank_limited).limit in
      let z = (get_or first.parts i p).amount in
      omega (
        arith,
        ap paid (amount_after i blank_limited c p h),
        after_paid l z (get_or (given_up ls first.parts) i 0) (gives_up i p h),
        uncollected_is i blank_limited c p h,
        beyond_paid l z,
      )

  pub limit_paid : (i : ℕ) (d : LimitedLine) (c : CeiledPart) (p : Part) → i < length ls → (get_or ls i d).limit.none ≡ false
      → (get_or ls i d).limit.fen.0 < paid (get_or first.parts i p).amount → paid (get_or (ceiling part ls).parts i c).amount ≡ (get_or ls i d).limit.fen.0
  limit_paid i d c p h t m = omega (arith, paid_less i c p h, beyond_uncollected i d c p h t)

  -- A MEMBER WHOSE AMOUNT IS ZERO OR BELOW, and who pays no more than the limit, or has none, keeps its amount.
  pub amount_kept : (i : ℕ) (d : LimitedLine) (c : CeiledPart) (p : Part) → i < length ls → positive (get_or first.parts i p).amount ≡ 0
      → ((get_or ls i d).limit.none ≡ true) ⊎ (paid (get_or first.parts i p).amount ≤ (get_or ls i d).limit.fen.0)
      → (get_or (ceiling part ls).parts i c).amount ≡ (get_or first.parts i p).amount
  amount_kept i d c p h k w =
      amount_after i d c p h
      ∙ after_kept (get_or ls i d).limit (get_or first.parts i p).amount (get_or (given_up ls first.parts) i 0) (gives_up i p h) k
      (none_beyond (get_or ls i d).limit (get_or first.parts i p).amount w)

  -- The share stays the first sharing's, and the amount is compensation − assessment + share + what is not collected − what is given up.
  pub share_kept : (i : ℕ) (c : CeiledPart) (p : Part) → i < length ls → (get_or (ceiling part ls).parts i c).share ≡ (get_or first.parts i p).share
  share_kept i c p h = ap (λ (q : CeiledPart). q.share) (line_gets i c p h)

  pub amount_is : (i : ℕ) (d : LimitedLine) (c : CeiledPart) → i < length ls → let l = (get_or ls i d).line in
      let q = get_or (ceiling part ls).parts i c in
      q.amount ≡ pos l.compensation.0 -ℤ pos (assessment_fen l) +ℤ q.share +ℤ pos q.uncollected -ℤ pos q.given
  amount_is i d c h =
      rw (line_gets i c (part_in blank_line) h, ← get_d_mapped (λ (l : LimitedLine). l.line) ls i d blank_line h)
      (ap (λ (z : ℤ). z +ℤ pos (get_or (uncollected_of ls first.parts) i 0) -ℤ pos (get_or (given_up ls first.parts) i 0))
      (S.amount_is part (plain_lines ls) (taken_list part ls none).first i blank_line (part_in blank_line) (rw (length-map ls (λ (l : LimitedLine). l.line)) h)))

  -- NO AMOUNT GROWS by a limit,
  pub none_grows : (i : ℕ) (c : CeiledPart) (p : Part) → i < length ls → nat_abs (get_or (ceiling part ls).parts i c).amount ≤ nat_abs (get_or first.parts i p).amount
  none_grows i c p h =
      omega (
        arith,
        ap nat_abs (amount_after i blank_limited c p h),
        after_most (get_or ls i blank_limited).limit (get_or first.parts i p).amount (get_or (given_up ls first.parts) i 0) (gives_up i p h),
      )

  -- and each has a bound: a share is at most 10^11 fen; an amount, what is not collected of it and what it gives up are at most twice that.
  pub part_within : (i : ℕ) (c : CeiledPart) → i < length ls → let q = get_or (ceiling part ls).parts i c in
      (nat_abs q.share ≤ 100000000000) × (nat_abs q.amount ≤ 200000000000) × (q.uncollected ≤ 200000000000) × (q.given ≤ 200000000000)
  part_within i c h =
      let z = (get_or first.parts i (part_in blank_line)).amount in
      let l = (get_or ls i blank_limited).limit in
      let e = line_gets i c (part_in blank_line) h in
      let w = S.part_within part (plain_lines ls) (taken_list part ls none).first i (part_in blank_line) (rw (length-map ls (λ (l : LimitedLine). l.line)) h) in (
        omega (arith, ap (λ (x : CeiledPart). nat_abs x.share) e, w.0),
        omega (arith, none_grows i c (part_in blank_line) h, w.1),
        omega (arith, uncollected_is i blank_limited c (part_in blank_line) h, beyond_le l z, w.1),
        omega (arith, given_most i c (part_in blank_line) h, positive_le z, w.1),
      )

  pub user_within : nat_abs (ceiling part ls).user ≤ most_compensation
  user_within = rw user_kept (S.user_within part (plain_lines ls) (taken_list part ls none).first)

  -- THE ONE-FEN RULE of the first sharing: share times the sum of weights lies less than that sum away from the generators' R times the weight.
  pub one_fen : (i : ℕ) (d : Line) (c : CeiledPart) → 0 < all_weights (plain_lines ls) → i < length ls
      → nat_abs ((get_or (ceiling part ls).parts i c).share *ℤ pos (all_weights (plain_lines ls))
      -ℤ generators_gap part (plain_lines ls) *ℤ pos (weight_of (below (plain_lines ls)) (get_or (plain_lines ls) i d))) < all_weights (plain_lines ls)
  one_fen i d c some h =
      rw (share_kept i c (part_in blank_line) h)
      (S.one_fen part (plain_lines ls) (taken_list part ls none).first i d (part_in blank_line) some (rw (length-map ls (λ (l : LimitedLine). l.line)) h))

  -- Where the sum of weights is 0, the generators' R is 0 with it, and so is every share.
  pub one_fen_none : (i : ℕ) (c : CeiledPart) → all_weights (plain_lines ls) ≡ 0 → i < length ls
      → (generators_gap part (plain_lines ls) ≡ pos 0) × ((get_or (ceiling part ls).parts i c).share ≡ pos 0)
  one_fen_none i c z h =
      let s = S.one_fen_none part (plain_lines ls) (taken_list part ls none).first i (part_in blank_line) z (rw (length-map ls (λ (l : LimitedLine). l.line)) h) in
      (s.0, share_kept i c (part_in blank_line) h ∙ s.1)

  -- THE ONE-FEN RULE of the second: what is given up, times all positive amounts, lies less than these away from the uncollected sum times the amount.
  pub one_fen_given : (i : ℕ) (c : CeiledPart) (p : Part) → i < length ls → 0 < total (positives first.parts)
      → let given = (get_or (ceiling part ls).parts i c).given in
      let own = positive (get_or first.parts i p).amount in
      let all = total (positives first.parts) in
      let sum = uncollected_sum ls first.parts in
      (given * all < sum * own + all) × (sum * own < given * all + all)
  unfolding given_up
  one_fen_given i c p h some =
      let k : i < length first.parts = omega (arith, long) in
      rw (ap (λ (q : CeiledPart). q.given) (line_gets i c p h), ← get_d_mapped (λ (p : Part). positive p.amount) first.parts i p 0 k)
      (less_than_one (uncollected_sum ls first.parts) (positives first.parts) i some
      (rw (length-map first.parts (λ (p : Part). positive p.amount)) k))

  -- Where there is no positive amount nothing is given up, and nothing is left uncollected.
  pub one_fen_given_none : (i : ℕ) (c : CeiledPart) → i < length ls → total (positives first.parts) ≡ 0
      → (uncollected_sum ls first.parts ≡ 0) × ((get_or (ceiling part ls).parts i c).given ≡ 0)
  one_fen_given_none i c h z =
      let k : i < length first.parts = omega (arith, long) in (
        omega (arith, (taken_list part ls none).room),
        omega (
          arith,
          ap (λ (q : CeiledPart). q.given) (line_gets i c (part_in blank_line) h),
          gives_up i (part_in blank_line) h,
          get_d_total (positives first.parts) i,
          get_d_mapped (λ (p : Part). positive p.amount) first.parts i (part_in blank_line) 0 k,
        ),
      )

  -- AS MUCH IS GIVEN UP AS IS NOT COLLECTED: over all lines the two sums are one.
  pub as_much_given : total (map (λ q. q.given) (ceiling part ls).parts) ≡ total (map (λ q. q.uncollected) (ceiling part ls).parts)
  unfolding ceiled_parts
  as_much_given =
      let us = uncollected_of ls first.parts in
      let gs = given_up ls first.parts in
      ap (λ (qs : List CeiledPart). total (map (λ q. q.given) qs)) parts_is
      ∙ ap total (by_given first.parts us gs long_uncollected long_given)
      ∙ all_given
      ∙ sym (ap (λ (qs : List CeiledPart). total (map (λ q. q.uncollected) qs)) parts_is ∙ ap total (by_uncollected first.parts us gs long_uncollected long_given))

  -- ALL AMOUNTS ADD UP TO ZERO, the user's among them.
  pub adds_to_zero_lem : sumℤ (all_ceiled (ceiling part ls)) ≡ pos 0
  unfolding ceiled_parts
  adds_to_zero_lem =
      let us = uncollected_of ls first.parts in
      let gs = given_up ls first.parts in
      sum_last (map (λ q. q.amount) (ceiling part ls).parts) (ceiling part ls).user
      ∙ ap (λ (z : ℤ). sumℤ (map (λ q. q.amount) (ceiling part ls).parts) +ℤ z) user_kept
      ∙ ap (λ (z : ℤ). z +ℤ first.user)
      {y = sumℤ (map (λ p. p.amount) first.parts)}
      (ap (λ (qs : List CeiledPart). sumℤ (map (λ q. q.amount) qs)) parts_is
      ∙ by_total first.parts us gs long_uncollected long_given
      ∙ rw all_given (there_and_back (sumℤ (map (λ p. p.amount) first.parts)) (uncollected_sum ls first.parts)))
      ∙ sym (sum_last (map (λ p. p.amount) first.parts) first.user)
      ∙ S.adds_to_zero_lem part (plain_lines ls) (taken_list part ls none).first
