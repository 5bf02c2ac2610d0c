-- What the largest remainder rule promises, for any amount and any weights.
use mathlib.Core.Path.{◌≡◌, refl, sym, ap, subst, ◌∙◌}
use mathlib.Core.Bool.{Bool, true, false}
use mathlib.Core.List.{List, [], ◌∷◌, map}
use mathlib.Core.Logic.{◌⊎◌, inl, inr}
use Prim.Native.Nat.{ℕ, ◌+◌, ◌*◌, ◌<◌}
use native.Mathlib.Nat.{div-add-mod', zero-mul, zero-div}
use native.Mathlib.Omega.{arith}
use lib.Dec.{ltb, lit<}
use borrow.Author.Tests.{le-ltb}
use lib.ListN.{length, get_or, length-map}
use lib.Seq.{ext_get_or}
use Rattle.apportion.specs.Apportion.{total, rounded_down, remainders, left, apportion, rank, one}
use Rattle.apportion.proofs.Laws.{Fair, reckoned_fair, exacts, exact_at, rounded_down_at, remainder_at}
use Rattle.apportion.proofs.Loops.{get_d_mapped}
use Rattle.apportion.proofs.ByRank.{share_at_lem, length_apportion, reckoned_by_rank}

-- The amount can be shared: there is nothing to share, or a weight to share it by.
abbrev pub Shareable : ℕ → List ℕ → Type 0
Shareable amount weights = (amount ≡ 0) ⊎ (0 < total weights)

-- By the reckoning: fair, and one more only to those that come first.
fair : (amount : ℕ) (weights : List ℕ) → 0 < total weights → Fair amount (total weights) (exacts amount weights) (apportion amount weights)
fair amount weights some =
    subst (Fair amount (total weights) (exacts amount weights)) (reckoned_by_rank amount weights some) (reckoned_fair amount weights some)

-- Where there is nothing to share, nothing is shared.
pub nothing : (weights : List ℕ) → apportion 0 weights ≡ map (λ w. 0) weights
nothing weights =
    ext_get_or 0 (apportion 0 weights) (map (λ w. 0) weights) (length_apportion 0 weights ∙ sym (length-map weights (λ (w : ℕ). 0)))
    (λ i h. go i (omega (arith, h, length_apportion 0 weights)))
  where
    go : (i : ℕ) → i < length weights → get_or (apportion 0 weights) i 0 ≡ get_or (map (λ w. 0) weights) i 0
    go i h =
        let rests = remainders 0 (total weights) weights in
        let base : get_or (rounded_down 0 (total weights) weights) i 0 ≡ 0 = rounded_down_at 0 (total weights) weights i h ∙ simp (zero-mul, zero-div) in
        share_at_lem 0 weights i h ∙ omega (arith, base, ap one (le-ltb (rank rests i) (left 0 weights) (omega arith)), get_d_mapped (λ (w : ℕ). 0) weights i h)

none_total : (ws : List ℕ) → total (map (λ w. 0) ws) ≡ 0
none_total [] = refl
none_total (w ∷ ws) = omega (arith, none_total ws)

-- The shares add up to the amount.
pub adds_up : (amount : ℕ) (weights : List ℕ) → Shareable amount weights → total (apportion amount weights) ≡ amount
adds_up amount weights (inl e) = rw (e, nothing weights) (none_total weights)
adds_up amount weights (inr some) = (fair amount weights some).adds

-- There is a share for each weight.
pub each_one : (amount : ℕ) (weights : List ℕ) → length (apportion amount weights) ≡ length weights
each_one = length_apportion

-- Each share is less than one away from its exact proportion: share times all and amount times weight differ by less than all.
pub less_than_one : (amount : ℕ) (weights : List ℕ) (i : ℕ) → 0 < total weights → i < length weights
    → let share = get_or (apportion amount weights) i 0 in
    let weight = get_or weights i 0 in
    (share * total weights < amount * weight + total weights) × (amount * weight < share * total weights + total weights)
less_than_one amount weights i some h =
    let f = fair amount weights some in
    let j : i < length (exacts amount weights) = rw (length-map weights (λ (w : ℕ). amount * w)) h in
    (rw (exact_at amount weights i) at (f.above i j), rw (exact_at amount weights i) at (f.below i j))

-- A share is the one rounded down, and one more exactly where fewer come before it than units are left: the units left go to
-- those that come first by remainder falling, then number rising.
pub by_rank : (amount : ℕ) (weights : List ℕ) (i : ℕ) → i < length weights
    → get_or (apportion amount weights) i 0
    ≡ get_or (rounded_down amount (total weights) weights) i 0
    + one (ltb (rank (remainders amount (total weights) weights) i) (left amount weights))
by_rank = share_at_lem

-- one more than an exact share would be a whole unit too much
exact_stays : (all q s x : ℕ) (b : Bool) → q * all ≡ x → s * all < x + all → s ≡ q + one b → s ≡ q
exact_stays all q s x false whole less e = omega arith
exact_stays all q s x true whole less e =
    let more : s * all ≡ (q + 1) * all = ap (λ (y : ℕ). y * all) e in
    absurd (omega arith)

-- A weight whose remainder is zero gets no unit more.
pub no_extra : (amount : ℕ) (weights : List ℕ) (i : ℕ) → 0 < total weights → i < length weights
    → get_or (remainders amount (total weights) weights) i 0 ≡ 0
    → get_or (apportion amount weights) i 0 ≡ get_or (rounded_down amount (total weights) weights) i 0
no_extra amount weights i some h z =
    let x = amount * get_or weights i 0 in
    let whole : get_or (rounded_down amount (total weights) weights) i 0 * total weights ≡ x =
    ap (λ (y : ℕ). y * total weights) (rounded_down_at amount (total weights) weights i h)
    ∙ omega (arith, div-add-mod' x (total weights), remainder_at amount (total weights) weights i h, z) in
    exact_stays (total weights) _ _ x (ltb (rank (remainders amount (total weights) weights) i) (left amount weights)) whole
    (less_than_one amount weights i some h).0 (share_at_lem amount weights i h)

-- The paper's sum: 100 by three equal weights is 34, 33, 33. The left-over unit goes to the lowest number.
pub hundred_by_three : apportion 100 (50 ∷ 50 ∷ 50 ∷ []) ≡ 34 ∷ 33 ∷ 33 ∷ []
unfolding apportion
hundred_by_three = refl

-- The promises meet that sum: their conditions can be met.
pub hundred_adds_up : total (apportion 100 (50 ∷ 50 ∷ 50 ∷ [])) ≡ 100
hundred_adds_up = adds_up 100 (50 ∷ 50 ∷ 50 ∷ []) (inr (lit< tt))

pub hundred_by_rank : get_or (apportion 100 (50 ∷ 50 ∷ 50 ∷ [])) 0 0 ≡ 33 + 1
hundred_by_rank = by_rank 100 (50 ∷ 50 ∷ 50 ∷ []) 0 (lit< tt)
