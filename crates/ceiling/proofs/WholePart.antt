-- 17 comes only where the user's amount is above zero: with the whole part never. Assumes nothing.
use mathlib.Core.Path.{◌≡◌, refl, sym, ap, ap₂, ◌∙◌}
use mathlib.Core.Bool.{true}
use mathlib.Core.List.{List, [], ◌∷◌, map}
use mathlib.Core.Logic.{◌≢◌}
use Prim.Native.Nat.{ℕ, zero, suc, ◌+◌, ◌-◌, ◌≤◌, ◌<◌}
use native.Mathlib.Omega.{arith}
use lib.IntN.{ℤ, pos, negsuc, neg_ℤ, ◌+ℤ◌, ◌-ℤ◌, +ℤ_idr, +ℤ_idl, pos-ne-negsuc}
use Rattle.apportion.specs.Apportion.{total}
use Rattle.share.specs.Sharing.{most_part, parts, Part, SharingOutcome, sharing}
use Rattle.share.proofs.Signs.{signed_add, diff_down, by_parts}
use Rattle.share.proofs.Promises.{sumℤ, sum_last, adds_to_zero_lem}
use Rattle.share.proofs.WholePart.{whole_part}
use Rattle.ceiling.specs.declared.LimitedLine.{LimitedLine}
use Rattle.ceiling.specs.Ceiling.{plain_lines, paid, positive, positives, uncollected_sum, ceiling}
use Rattle.ceiling.proofs.Signs.{beyond_paid, paid_pos, paid_neg, positive_neg, positive_pos}
use Rattle.ceiling.proofs.Refusals.{first_done, seventeen_only}

-- what the payers pay
abbrev payments : List Part → List ℕ
payments ps = map (λ p. paid p.amount) ps

-- an amount is what is got less what is paid
two_sides : (z : ℤ) → z ≡ pos (positive z) -ℤ pos (paid z)
two_sides (pos n) = sym (rw (positive_pos n, paid_pos n) (+ℤ_idr (pos n)))
two_sides (negsuc n) = sym (rw (positive_neg n, paid_neg n) (+ℤ_idl (negsuc n)))

sum_sides : (ps : List Part) → sumℤ (map (λ p. p.amount) ps) ≡ pos (total (positives ps)) -ℤ pos (total (payments ps))
sum_sides [] = refl
sum_sides (p ∷ ps) =
    ap (λ (z : ℤ). z +ℤ sumℤ (map (λ p. p.amount) ps)) (two_sides p.amount)
    ∙ ap (λ (z : ℤ). pos (positive p.amount) -ℤ pos (paid p.amount) +ℤ z) (sum_sides ps)
    ∙ four (pos (positive p.amount)) (neg_ℤ (pos (paid p.amount))) (pos (total (positives ps))) (neg_ℤ (pos (total (payments ps))))
    ∙ ap (λ (z : ℤ). pos (positive p.amount + total (positives ps)) +ℤ z) (signed_add true (paid p.amount) (total (payments ps)))
  where
    four : (a b c d : ℤ) → (a +ℤ b) +ℤ (c +ℤ d) ≡ (a +ℤ c) +ℤ (b +ℤ d)
    four a b c d = sym (ap₂ ◌+ℤ◌ (+ℤ_idr (a +ℤ b)) (+ℤ_idr (c +ℤ d))) ∙ by_parts a b (pos 0) c d (pos 0) ∙ +ℤ_idr ((a +ℤ c) +ℤ (b +ℤ d))

uncollected_paid : (ls : List LimitedLine) (ps : List Part) → uncollected_sum ls ps ≤ total (payments ps)
uncollected_paid [] ps = omega arith
uncollected_paid (l ∷ ls) [] = omega arith
uncollected_paid (l ∷ ls) (p ∷ ps) = omega (arith, beyond_paid l.limit p.amount, uncollected_paid ls ps)

-- where less is got than is paid, and the last amount brings all to zero, that one is above zero
last_above : (a b : ℕ) (z : ℤ) → pos a -ℤ pos b +ℤ z ≡ pos 0 → a < b → 0 < positive z
last_above a b z e l = go z (sym (ap (λ (y : ℤ). y +ℤ z) (diff_down a b l)) ∙ e)
  where
    go : (z : ℤ) → negsuc (b - suc a) +ℤ z ≡ pos 0 → 0 < positive z
    go (pos zero) k = absurd (pos-ne-negsuc 0 (b - suc a) (sym k ∙ +ℤ_idr (negsuc (b - suc a))))
    go (pos (suc n)) k = omega (arith, positive_pos (suc n))
    go (negsuc n) k = absurd (pos-ne-negsuc 0 _ (sym k))

-- 17 COMES ONLY BY THE USER: the user's amount, which gives up nothing, is above zero in the first sharing,
pub seventeen_by_the_user : (part : ℕ) (ls : List LimitedLine) → (ceiling part ls).number ≡ 17 → 0 < positive (sharing part (plain_lines ls)).user
seventeen_by_the_user part ls n =
    let s = seventeen_only part ls n in
    let o = sharing part (plain_lines ls) in
    let e = first_done part ls s.0 in
    let none : (sharing part (plain_lines ls)).number ≡ 0 = sym (ap (λ (o : SharingOutcome). o.number) e) in
    let ps = parts part (plain_lines ls) in
    last_above (total (positives ps)) (total (payments ps)) o.user
    (ap (λ (z : ℤ). z +ℤ o.user) (sym (sum_sides ps) ∙ ap (λ (o : SharingOutcome). sumℤ (map (λ p. p.amount) o.parts)) e)
    ∙ sym (sum_last (map (λ p. p.amount) o.parts) o.user) ∙ adds_to_zero_lem part (plain_lines ls) none)
    (omega (arith, s.1, uncollected_paid ls ps))

-- so with the whole part, where the user gets and pays nothing, 17 never comes.
pub whole_never_17 : (ls : List LimitedLine) → (ceiling most_part ls).number ≢ 17
whole_never_17 ls n =
    absurd (omega (arith, seventeen_by_the_user most_part ls n, ap (λ (o : SharingOutcome). positive o.user) (whole_part (plain_lines ls)), positive_pos 0))
