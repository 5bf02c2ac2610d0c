-- How the largest remainder rule comes out: by what is kept while the units left are given. Assumes nothing.
use mathlib.Core.Path.{◌≡◌, refl, sym, ◌∙◌}
use mathlib.Core.Bool.{Bool, true, false, cond}
use mathlib.Core.List.{List, [], ◌∷◌, map}
use Prim.Native.Nat.{ℕ, zero, suc, ◌+◌, ◌*◌, ◌/◌, ◌%◌, ◌≤◌, ◌<◌, max}
use native.Mathlib.Nat.{div-add-mod', mod-lt, not-suc-le-zero, le_of_mul-le-mul_right}
use native.Mathlib.Decide.{ℕ_discrete}
use native.Mathlib.Omega.{arith}
use borrow.Author.Tests.{leb-true, leb-false}
use lib.Dec.{leb}
use lib.ListN.{length, get_or, set, length-set, length-map}
use lib.Seq.{get_or-set_same, get_or-set_other}
use Rattle.apportion.specs.Apportion.{total, rounded_down, remainders, left}
use Rattle.apportion.specs.Giving.{top, largest_at, give_out, reckoned}

-- A store changes the sum by what was there and what is now.
pub total_set : (xs : List ℕ) (i v : ℕ) → i < length xs → total (set xs i v) + get_or xs i 0 ≡ total xs + v
total_set [] i v h = omega arith
total_set (x ∷ xs) zero v h = omega arith
total_set (x ∷ xs) (suc i) v h = omega (arith, total_set xs i v (omega arith))

-- What stands at the place of the largest is the largest.
pub at_largest : (xs : List ℕ) → get_or xs (largest_at xs) 0 ≡ top xs
at_largest [] = refl
at_largest (x ∷ xs) = go (leb (top xs) x) refl (at_largest xs)
  where
    go : (b : Bool) → leb (top xs) x ≡ b → get_or xs (largest_at xs) 0 ≡ top xs
        → get_or (x ∷ xs) (cond b 0 (suc (largest_at xs))) 0 ≡ max x (top xs)
    go true e ih = omega (arith, leb-true (top xs) x e)
    go false e ih = omega (arith, leb-false (top xs) x e)

-- Where the largest is above 0, it is a place of the list.
pub largest_in : (xs : List ℕ) → 0 < top xs → largest_at xs < length xs
largest_in [] h = omega arith
largest_in (x ∷ xs) h = go (leb (top xs) x) refl (largest_in xs)
  where
    go : (b : Bool) → leb (top xs) x ≡ b → (0 < top xs → largest_at xs < length xs) → cond b 0 (suc (largest_at xs)) < suc (length xs)
    go true e ih = omega arith
    go false e ih = omega (arith, ih (omega (arith, leb-false (top xs) x e)))

-- Where the sum is above 0, so is the largest.
top_none : (xs : List ℕ) → top xs ≡ 0 → total xs ≡ 0
top_none [] e = refl
top_none (x ∷ xs) e = omega (arith, top_none xs (omega arith))

pub top_some : (xs : List ℕ) → 0 < total xs → 0 < top xs
top_some xs h = go (top xs) refl
  where
    go : (t : ℕ) → top xs ≡ t → 0 < top xs
    go zero e = omega (arith, top_none xs e)
    go (suc t) e = omega arith

-- The exact parts add up: the shares rounded down and the remainders make up n times all.
pub parts_add : (n all : ℕ) (ws : List ℕ) → total (rounded_down n all ws) * all + total (remainders n all ws) ≡ n * total ws
parts_add n all [] = omega arith
parts_add n all (w ∷ ws) = omega (arith, parts_add n all ws, div-add-mod' (n * w) all)

-- A line while the left-over is given out, with n · w as x: its share s is less than one away from the exact part,
-- and while its remainder r has not been served the two make up the exact part.
pub record Near (all x r s : ℕ) : Type 0 where
  pub small : r < all
  pub below : x < s * all + all
  pub above : s * all < x + all
  pub exact : 0 < r → s * all + r ≡ x

near_start : (all x : ℕ) → 0 < all → Near all x (x % all) (x / all)
near_start all x h = record {
  small = mod-lt x h;
  below = omega (arith, div-add-mod' x all, mod-lt x h);
  above = omega (arith, div-add-mod' x all);
  exact = λ _. div-add-mod' x all;
}

near_served : (all x r s : ℕ) → 0 < r → Near all x r s → Near all x 0 (s + 1)
near_served all x r s h k = record {
  small = omega (arith, k.small);
  below = omega (arith, k.below);
  above = omega (arith, k.exact h);
  exact = λ z. omega arith;
}

-- What the rule promises of the shares ss of n over the exact parts xs (each n times a weight) and the weights' sum `all`.
pub record Fair (n all : ℕ) (xs ss : List ℕ) : Type 0 where
  pub adds : total ss ≡ n
  pub long : length ss ≡ length xs
  pub below : (i : ℕ) → i < length xs → get_or xs i 0 < get_or ss i 0 * all + all
  pub above : (i : ℕ) → i < length xs → get_or ss i 0 * all < get_or xs i 0 + all

abbrev pub AllNear : ℕ → List ℕ → List ℕ → List ℕ → Type 0
AllNear all xs rs ss = (i : ℕ) → i < length xs → Near all (get_or xs i 0) (get_or rs i 0) (get_or ss i 0)

-- One turn of giving keeps every line near.
turn_near : (all : ℕ) (xs rs ss : List ℕ) → length rs ≡ length xs → length ss ≡ length xs → 0 < top rs
    → AllNear all xs rs ss → AllNear all xs (set rs (largest_at rs) 0) (set ss (largest_at rs) (get_or ss (largest_at rs) 0 + 1))
turn_near all xs rs ss lr ls p near i h = go (ℕ_discrete i (largest_at rs)) (largest_in rs p)
  where
    go : Dec (i ≡ largest_at rs) → largest_at rs < length rs
        → Near all (get_or xs i 0) (get_or (set rs (largest_at rs) 0) i 0) (get_or (set ss (largest_at rs) (get_or ss (largest_at rs) 0 + 1)) i 0)
    go (yes e) m =
        let m' : largest_at rs < length ss = omega arith in
        rw (e, get_or-set_same rs (largest_at rs) 0 0, get_or-set_same ss (largest_at rs) (get_or ss (largest_at rs) 0 + 1) 0)
        (near_served all _ _ _ (omega (arith, at_largest rs)) (near (largest_at rs) (omega arith)))
    go (no f) m = rw (get_or-set_other rs (largest_at rs) i 0 0 f, get_or-set_other ss (largest_at rs) i (get_or ss (largest_at rs) 0 + 1) 0 f) (near i h)

-- k turns find a remainder above 0 each.
abbrev pub Room : ℕ → List ℕ → Type 0
Room zero rs = Unit {0}
Room (suc k) rs = (0 < top rs) × Room k (set rs (largest_at rs) 0)

AllBelow : ℕ → List ℕ → Type 0
AllBelow all rs = (i : ℕ) → i < length rs → get_or rs i 0 < all

below_set : (all : ℕ) (rs : List ℕ) (m : ℕ) → 0 < all → AllBelow all rs → AllBelow all (set rs m 0)
unfolding AllBelow
below_set all rs m pos small i h = go (ℕ_discrete i m)
  where
    l : i < length rs
    l = omega (arith, length-set rs m 0)

    go : Dec (i ≡ m) → get_or (set rs m 0) i 0 < all
    go (yes e) = rw (e, get_or-set_same rs m 0 0 (rw e at l)) pos
    go (no f) = rw (get_or-set_other rs m i 0 0 f) (small i l)

-- THE COUNT: where remainders below `all` come to k times `all`, k turns find one above 0 each.
room_of : (k all : ℕ) (rs : List ℕ) → 0 < all → AllBelow all rs → k * all ≤ total rs → Room k rs
unfolding AllBelow
room_of zero all rs pos small h = tt
room_of (suc k) all rs pos small h =
    let p : 0 < top rs = top_some rs (omega arith) in
    let m : largest_at rs < length rs = largest_in rs p in (
      p,
      room_of k all (set rs (largest_at rs) 0) pos (below_set all rs (largest_at rs) pos small)
          (omega (arith, total_set rs (largest_at rs) 0 m, small (largest_at rs) m)),
    )

-- Giving out k.
give_fair : (k n all : ℕ) (xs rs ss : List ℕ) → length rs ≡ length xs → length ss ≡ length xs
    → Room k rs → total ss + k ≡ n → AllNear all xs rs ss → Fair n all xs (give_out k rs ss)
give_fair zero n all xs rs ss lr ls room sum near =
    record { adds = omega arith; long = ls; below = λ i h. (near i h).below; above = λ i h. (near i h).above }
give_fair (suc k) n all xs rs ss lr ls room sum near =
    let m : largest_at rs < length rs = largest_in rs room.0 in
    give_fair k n all xs (set rs (largest_at rs) 0) (set ss (largest_at rs) (get_or ss (largest_at rs) 0 + 1))
    (length-set rs (largest_at rs) 0 ∙ lr)
    (length-set ss (largest_at rs) _ ∙ ls)
    room.1
    (omega (arith, total_set ss (largest_at rs) (get_or ss (largest_at rs) 0 + 1) (omega arith)))
    (turn_near all xs rs ss lr ls room.0 near)

-- The exact parts of n.
abbrev pub exacts : ℕ → List ℕ → List ℕ
exacts n ws = map (λ w. n * w) ws

pub exact_at : (n : ℕ) (ws : List ℕ) (i : ℕ) → get_or (exacts n ws) i 0 ≡ n * get_or ws i 0
exact_at n [] i = omega arith
exact_at n (w ∷ ws) zero = refl
exact_at n (w ∷ ws) (suc i) = exact_at n ws i

-- At the start every line is near.
start_near : (n all : ℕ) (ws : List ℕ) → 0 < all → AllNear all (exacts n ws) (remainders n all ws) (rounded_down n all ws)
start_near n all [] p i h = absurd (not-suc-le-zero h)
start_near n all (w ∷ ws) p zero h = near_start all (n * w) p
start_near n all (w ∷ ws) p (suc i) h = start_near n all ws p i (omega arith)

-- The remainders hold what is left over.
room_for : (b d n all t : ℕ) → b + d ≡ n → b * all + t ≡ n * all → d * all ≤ t
room_for b d n all t e h = let h' : b * all + t ≡ (b + d) * all = rw (← e) at h in omega arith

-- The shares rounded down come to no more than n.
pub bases_le : (n : ℕ) (ws : List ℕ) → 0 < total ws → total (rounded_down n (total ws) ws) ≤ n
bases_le n ws pos = le_of_mul-le-mul_right {k = total ws} (omega (arith, parts_add n (total ws) ws)) pos

pub reckoned_room : (n : ℕ) (ws : List ℕ) → 0 < total ws → Room (left n ws) (remainders n (total ws) ws)
unfolding AllBelow
reckoned_room n ws pos =
    let all = total ws in
    let le = bases_le n ws pos in
    let same = length-map ws (λ (w : ℕ). n * w % all) ∙ sym (length-map ws (λ (w : ℕ). n * w)) in
    room_of (left n ws) all (remainders n all ws) pos (λ i h. (start_near n all ws pos i (omega (arith, same))).small)
    (room_for (total (rounded_down n all ws)) (left n ws) n all (total (remainders n all ws)) (omega arith) (parts_add n all ws))

-- THE LARGEST REMAINDER LEMMA, for any amount and any weights that are not all 0.
pub reckoned_fair : (n : ℕ) (ws : List ℕ) → 0 < total ws → Fair n (total ws) (exacts n ws) (reckoned n ws)
reckoned_fair n ws pos =
    let all = total ws in
    let le = bases_le n ws pos in
    give_fair (left n ws) n all (exacts n ws) (remainders n all ws) (rounded_down n all ws)
    (length-map ws _ ∙ sym (length-map ws _)) (length-map ws _ ∙ sym (length-map ws _))
    (reckoned_room n ws pos)
    (omega arith)
    (start_near n all ws pos)

-- a share rounded down, and a remainder, of the weight at a place
pub rounded_down_at : (n all : ℕ) (ws : List ℕ) (i : ℕ) → i < length ws → get_or (rounded_down n all ws) i 0 ≡ n * get_or ws i 0 / all
rounded_down_at n all [] i h = absurd (not-suc-le-zero h)
rounded_down_at n all (w ∷ ws) zero h = refl
rounded_down_at n all (w ∷ ws) (suc i) h = rounded_down_at n all ws i (omega arith)

pub remainder_at : (n all : ℕ) (ws : List ℕ) (i : ℕ) → i < length ws → get_or (remainders n all ws) i 0 ≡ n * get_or ws i 0 % all
remainder_at n all [] i h = absurd (not-suc-le-zero h)
remainder_at n all (w ∷ ws) zero h = refl
remainder_at n all (w ∷ ws) (suc i) h = remainder_at n all ws i (omega arith)

-- no remainder is above what is divided by
pub remainder_le : (n all : ℕ) (ws : List ℕ) (i : ℕ) → 0 < all → get_or (remainders n all ws) i 0 ≤ all
remainder_le n all [] i h = omega arith
remainder_le n all (w ∷ ws) zero h = omega (arith, mod-lt (n * w) h)
remainder_le n all (w ∷ ws) (suc i) h = remainder_le n all ws i h
