-- One unit to each remainder above a bar is as many turns of giving as there are such remainders. Assumes nothing.
use mathlib.Core.Path.{◌≡◌, refl, sym, ap, ap₂, ◌∙◌}
use mathlib.Core.Bool.{Bool, true, false, cond}
use mathlib.Core.List.{List, [], ◌∷◌}
use Prim.Native.Nat.{ℕ, zero, suc, ◌+◌, ◌-◌, ◌/◌, ◌^◌, ◌≤◌, ◌<◌, max}
use native.Mathlib.Numerals.{add-one}
use native.Mathlib.Nat.{not-suc-le-zero}
use native.Mathlib.Omega.{arith}
use borrow.Author.Tests.{lt-ltb, le-ltb, ltb-true, ltb-false}
use lib.Dec.{ltb}
use lib.ListN.{length, get_or, set, drop, drop_of_length-le, length-set}
use lib.Seq.{drop-cons}
use Rattle.apportion.specs.Apportion.{total}
use Rattle.apportion.specs.Giving.{top, largest_at, give_out}
use Rattle.apportion.specs.Bar.{one_above, unless_served, count_above, strike_above, give_above}
use Rattle.apportion.proofs.Laws.{at_largest, largest_in}
use Rattle.apportion.proofs.Loops.{give_turn}

-- a remainder above the bar, one that is not, and one that was served
one_yes : (bar r : ℕ) → bar < r → one_above bar r ≡ 1
one_yes bar r h = rw (lt-ltb bar r h)

one_no : (bar r : ℕ) → r ≤ bar → one_above bar r ≡ 0
one_no bar r h = rw (le-ltb bar r h)

pub one_le : (bar r : ℕ) → one_above bar r ≤ 1
one_le bar r = go (ltb bar r)
  where
    go : (b : Bool) → cond b 1 0 ≤ 1
    go true = omega arith
    go false = omega arith

-- the same by a sum and a shift
pub one_by_shift : (bar r : ℕ) → bar < 2 ^ 63 → r < 2 ^ 63 → (r + (9223372036854775807 - bar)) / 9223372036854775808 ≡ one_above bar r
one_by_shift bar r h k = go (ltb bar r) refl
  where
    go : (b : Bool) → ltb bar r ≡ b → (r + (9223372036854775807 - bar)) / 9223372036854775808 ≡ cond b 1 0
    go true e = omega (arith, ltb-true bar r e)
    go false e = omega (arith, ltb-false bar r e)

served : (bar r : ℕ) → bar < r → unless_served bar r ≡ 0
served bar r h = rw (lt-ltb bar r h)

not_served : (bar r : ℕ) → r ≤ bar → unless_served bar r ≡ r
not_served bar r h = rw (le-ltb bar r h)

-- How many are above: the one at i, and the rest.
pub above_step : (bar : ℕ) (xs : List ℕ) (i : ℕ) → i < length xs → count_above bar (drop i xs) ≡ one_above bar (get_or xs i 0) + count_above bar (drop (i + 1) xs)
above_step bar xs i h = rw (add-one, drop-cons xs i 0)

pub above_end : (bar : ℕ) (xs : List ℕ) (i : ℕ) → length xs ≤ i → count_above bar (drop i xs) ≡ 0
above_end bar xs i h = ap (count_above bar) (drop_of_length-le xs h)

pub above_le : (bar : ℕ) (xs : List ℕ) → count_above bar xs ≤ length xs
above_le bar [] = omega arith
above_le bar (x ∷ xs) = omega (arith, one_le bar x, above_le bar xs)

-- None is above a bar that none exceeds.
pub above_none : (bar : ℕ) (xs : List ℕ) → ((k : ℕ) → get_or xs k 0 ≤ bar) → count_above bar xs ≡ 0
above_none bar [] h = refl
above_none bar (x ∷ xs) h = omega (arith, one_no bar x (h 0), above_none bar xs (λ k. h (suc k)))

-- Where some are above the bar, the largest is.
above_some : (bar : ℕ) (xs : List ℕ) → 0 < count_above bar xs → bar < top xs
above_some bar [] h = absurd (not-suc-le-zero h)
above_some bar (x ∷ xs) h = go (ltb bar x) refl h (above_some bar xs)
  where
    go : (b : Bool) → ltb bar x ≡ b → 0 < cond b 1 0 + count_above bar xs → (0 < count_above bar xs → bar < top xs) → bar < max x (top xs)
    go true e k rec = omega (arith, ltb-true bar x e)
    go false e k rec = omega (arith, rec (omega arith))

-- One of those above the bar is served: it is one fewer, and what comes out at the bar is the same.
above_set : (bar : ℕ) (xs : List ℕ) (i : ℕ) → i < length xs → bar < get_or xs i 0 → count_above bar (set xs i 0) + 1 ≡ count_above bar xs
above_set bar [] i h k = absurd (not-suc-le-zero h)
above_set bar (x ∷ xs) zero h k = omega (arith, one_yes bar x k, one_no bar 0 (omega arith))
above_set bar (x ∷ xs) (suc i) h k = omega (arith, above_set bar xs i (omega arith) k)

struck_set : (bar : ℕ) (xs : List ℕ) (i : ℕ) → bar < get_or xs i 0 → strike_above bar (set xs i 0) ≡ strike_above bar xs
struck_set bar [] i k = refl
struck_set bar (x ∷ xs) zero k = ap (λ (y : ℕ). y ∷ strike_above bar xs) (not_served bar 0 (omega arith) ∙ sym (served bar x k))
struck_set bar (x ∷ xs) (suc i) k = ap (λ (l : List ℕ). unless_served bar x ∷ l) (struck_set bar xs i k)

raised_set : (bar : ℕ) (rs ss : List ℕ) (i : ℕ) → bar < get_or rs i 0 → length ss ≡ length rs
    → give_above bar (set rs i 0) (set ss i (get_or ss i 0 + 1)) ≡ give_above bar rs ss
raised_set bar [] ss i k e = absurd (not-suc-le-zero k)
raised_set bar (r ∷ rs) [] i k e = absurd (omega arith)
raised_set bar (r ∷ rs) (s ∷ ss) zero k e = ap (λ (y : ℕ). y ∷ give_above bar rs ss) (omega (arith, one_yes bar r k, one_no bar 0 (omega arith)))
raised_set bar (r ∷ rs) (s ∷ ss) (suc i) k e = ap (λ (l : List ℕ). (s + one_above bar r) ∷ l) (raised_set bar rs ss i k (omega arith))

-- Where none is above the bar, nothing changes.
none_struck : (bar : ℕ) (rs : List ℕ) → count_above bar rs ≡ 0 → strike_above bar rs ≡ rs
none_struck bar [] e = refl
none_struck bar (r ∷ rs) e = go (ltb bar r) e (none_struck bar rs)
  where
    go : (b : Bool) → cond b 1 0 + count_above bar rs ≡ 0 → (count_above bar rs ≡ 0 → strike_above bar rs ≡ rs) → cond b 0 r ∷ strike_above bar rs ≡ r ∷ rs
    go true h rec = absurd (omega arith)
    go false h rec = ap (λ (l : List ℕ). r ∷ l) (rec (omega arith))

none_raised : (bar : ℕ) (rs ss : List ℕ) → count_above bar rs ≡ 0 → give_above bar rs ss ≡ ss
none_raised bar [] ss e = refl
none_raised bar (r ∷ rs) [] e = refl
none_raised bar (r ∷ rs) (s ∷ ss) e = ap₂ (λ (x : ℕ) (l : List ℕ). x ∷ l) (omega arith) (none_raised bar rs ss (omega arith))

-- THE BAR: as many turns of giving as there are remainders above it serve exactly those.
turns : (c k bar : ℕ) (rs ss : List ℕ) → count_above bar rs ≡ c → c ≤ k → length ss ≡ length rs
    → give_out k rs ss ≡ give_out (k - c) (strike_above bar rs) (give_above bar rs ss)
turns zero k bar rs ss e h l =
    let z : k - 0 ≡ k = omega arith in
    rw (none_struck bar rs e, none_raised bar rs ss e, z)
turns (suc c) k bar rs ss e h l =
    let p : bar < top rs = above_some bar rs (omega arith) in
    let m : largest_at rs < length rs = largest_in rs (omega arith) in
    let q : bar < get_or rs (largest_at rs) 0 = omega (arith, at_largest rs) in
    let z : k - 1 - c ≡ k - suc c = omega arith in
    give_turn k rs ss (omega arith)
    ∙ turns c (k - 1) bar (set rs (largest_at rs) 0) (set ss (largest_at rs) (get_or ss (largest_at rs) 0 + 1))
    (omega (arith, above_set bar rs (largest_at rs) m q)) (omega arith)
    (length-set ss (largest_at rs) _ ∙ l ∙ sym (length-set rs (largest_at rs) 0))
    ∙ ap₂ (λ (x : List ℕ) (y : List ℕ). give_out (k - 1 - c) x y) (struck_set bar rs (largest_at rs) q) (raised_set bar rs ss (largest_at rs) q l)
    ∙ ap (λ (j : ℕ). give_out j (strike_above bar rs) (give_above bar rs ss)) z

pub give_above_lem : (k bar : ℕ) (rs ss : List ℕ) → count_above bar rs ≤ k → length ss ≡ length rs
    → give_out (k - count_above bar rs) (strike_above bar rs) (give_above bar rs ss) ≡ give_out k rs ss
give_above_lem k bar rs ss h l = sym (turns (count_above bar rs) k bar rs ss refl h l)

-- The shares given above the bar, as a whole and place by place.
pub length_raised : (bar : ℕ) (rs ss : List ℕ) → length ss ≡ length rs → length (give_above bar rs ss) ≡ length ss
length_raised bar [] ss l = refl
length_raised bar (r ∷ rs) [] l = refl
length_raised bar (r ∷ rs) (s ∷ ss) l = ap suc (length_raised bar rs ss (omega arith))

pub raised_at : (bar : ℕ) (rs ss : List ℕ) (i : ℕ) → i < length rs → length ss ≡ length rs
    → get_or (give_above bar rs ss) i 0 ≡ get_or ss i 0 + one_above bar (get_or rs i 0)
raised_at bar [] ss i h l = absurd (not-suc-le-zero h)
raised_at bar (r ∷ rs) [] i h l = absurd (omega arith)
raised_at bar (r ∷ rs) (s ∷ ss) zero h l = refl
raised_at bar (r ∷ rs) (s ∷ ss) (suc i) h l = raised_at bar rs ss i (omega arith) (omega arith)

pub total_raised : (bar : ℕ) (rs ss : List ℕ) → length ss ≡ length rs → total (give_above bar rs ss) ≡ total ss + count_above bar rs
total_raised bar [] ss l = omega arith
total_raised bar (r ∷ rs) [] l = absurd (omega arith)
total_raised bar (r ∷ rs) (s ∷ ss) l = omega (arith, total_raised bar rs ss (omega arith))
