-- The outcome by its cases, over plain values. Assumes nothing.
use mathlib.Core.Path.{◌≡◌, refl, sym, ap, ap₂, ◌∙◌}
use mathlib.Core.Bool.{Bool, true, false, cond}
use mathlib.Core.List.{List, [], ◌∷◌}
use mathlib.Core.Logic.{◌⊎◌, inl, inr}
use Prim.Native.Nat.{ℕ, zero, suc, min, ◌*◌, ◌/◌, ◌≤◌, ◌<◌}
use native.Mathlib.Decide.{dec_le, dec_lt}
use native.Mathlib.Omega.{arith}
use borrow.Author.Tests.{lt-ltb, le-ltb, eq-eqb, ne_eqb}
use lib.Dec.{ltb}
use lib.IntN.{ℤ, pos, nat_abs, ◌-ℤ◌}
use lib.ListN.{length, get_or, take}
use lib.Seq.{get_or-take}
use Rattle.apportion.specs.Apportion.{total, apportion}
use Rattle.apportion.proofs.Promises.{adds_up}
use Rattle.apportion.proofs.Loops.{get_d_total}
use Rattle.share.specs.declared.Line.{Line}
use Rattle.share.specs.Sharing.{compensated, assessed, below, gap, generators_amount, user_amount, weights_of, all_weights, signed, parts_by, parts, line_is_sound, first_bad_line}
use Rattle.share.specs.Sharing.{weightless, sharing_refused, sharing_accepted, settled, sharing_in_turn, sharing, most_number, most_compensation, most_part, part_place}
use Rattle.share.proofs.Bounds.{few_sound}
use Rattle.share.specs.Inner.{GapIs}

-- 15
pub settled_15 : (part : ℕ) (ls : List Line) → most_compensation < compensated ls → sharing_refused 15 0 ≡ settled part ls
unfolding settled
settled_15 part ls h = rw (lt-ltb most_compensation (compensated ls) h)

-- 16
pub settled_16 : (part : ℕ) (ls : List Line) → compensated ls ≤ most_compensation → 0 < generators_amount part ls → all_weights ls ≡ 0 → sharing_refused 16 0 ≡ settled part ls
unfolding settled
settled_16 part ls k h e =
    rw (le-ltb most_compensation (compensated ls) k, lt-ltb 0 (generators_amount part ls) h, eq-eqb (all_weights ls) 0 e)

pub settled_on : (part : ℕ) (ls : List Line) → compensated ls ≤ most_compensation → (0 < generators_amount part ls → 0 < all_weights ls) → sharing_accepted part ls ≡ settled part ls
unfolding settled
settled_on part ls k h = go (dec_le 1 (generators_amount part ls))
  where
    go : Dec (1 ≤ generators_amount part ls)
        → sharing_accepted part ls ≡ cond (ltb most_compensation (compensated ls)) (sharing_refused 15 0) (cond (weightless part ls) (sharing_refused 16 0) (sharing_accepted part ls))
    go (yes p) = rw (le-ltb most_compensation (compensated ls) k, lt-ltb 0 (generators_amount part ls) p, ne_eqb (all_weights ls) 0 (λ e. omega (arith, h p)))
    go (no f) = rw (le-ltb most_compensation (compensated ls) k, le-ltb 0 (generators_amount part ls) (omega arith))

-- R from C and A, and the generators' and the user's of it
pub gap_is : (part : ℕ) (ls : List Line) (c a amount : ℕ) (negative : Bool) (whole user : ℤ) → c ≡ compensated ls → a ≡ assessed ls
    → amount ≡ nat_abs (pos a -ℤ pos c) * part / most_part → negative ≡ ltb a c → whole ≡ pos a -ℤ pos c → user ≡ whole -ℤ signed negative amount
    → GapIs part ls amount negative whole user
unfolding gap generators_amount user_amount
gap_is part ls c a amount negative whole user ec ea en eb ew eu =
    let e : pos a -ℤ pos c ≡ gap ls = ap₂ (λ (x y : ℕ). pos x -ℤ pos y) ea ec in
    let n : amount ≡ generators_amount part ls = en ∙ ap (λ (z : ℤ). nat_abs z * part / most_part) e in
    let b : negative ≡ below ls = eb ∙ ap₂ ltb ea ec in
    (n, b, ew ∙ e, eu ∙ ap₂ (λ (x y : ℤ). x -ℤ y) (ew ∙ e) (ap₂ signed b n))

-- a share is at most what is shared
pub share_le : (n k count : ℕ) (ss ws : List ℕ) → take count ss ≡ apportion n ws → (0 < n → 0 < total ws) → k < count → get_or ss k 0 ≤ n
share_le n k count ss ws e h l = go (dec_le 1 n)
  where
    adds : (n ≡ 0) ⊎ (0 < total ws) → get_or ss k 0 ≤ n
    adds w = omega (arith, get_d_total (take count ss) k, get_or-take count ss k 0 l, ap total e, adds_up n ws w)

    go : Dec (1 ≤ n) → get_or ss k 0 ≤ n
    go (yes p) = adds (inr (h p))
    go (no f) = adds (inl (omega arith))

-- the parts from what was computed
pub parts_are : (part : ℕ) (ls : List Line) (n : ℕ) (is_below : Bool) (ss : List ℕ) → n ≡ generators_amount part ls → is_below ≡ below ls
    → ss ≡ apportion n (weights_of is_below ls) → parts_by is_below ls ss ≡ parts part ls
unfolding parts
parts_are part ls n is_below ss en eb es = rw (es, en, eb)

-- 10
pub bad_le : (before : ℕ) (ls : List Line) → first_bad_line before ls ≤ length ls
bad_le before [] = omega arith
bad_le before (l ∷ ls) = go (line_is_sound before l) (bad_le l.number ls)
  where
    go : (b : Bool) → first_bad_line l.number ls ≤ length ls → cond b (suc (first_bad_line l.number ls)) 0 ≤ suc (length ls)
    go true h = omega arith
    go false h = omega arith

-- a part above 10,000, before the lines
pub turn_part : (part bad count : ℕ) (ls : List Line) → most_part < part → sharing_refused 10 part_place ≡ sharing_in_turn part bad count ls
unfolding sharing_in_turn
turn_part part bad count ls h = rw (lt-ltb most_part part h)

-- a bad line, the 65th among them
pub turn_10 : (part bad count : ℕ) (ls : List Line) → part ≤ most_part → bad ≤ most_number → bad < count → sharing_refused 10 bad ≡ sharing_in_turn part bad count ls
unfolding sharing_in_turn
turn_10 part bad count ls fair few h = go (dec_lt bad (min count most_number))
  where
    go : Dec (bad < min count most_number) → sharing_refused 10 bad ≡ sharing_in_turn part bad count ls
    go (yes l) = rw (le-ltb most_part part fair, lt-ltb bad (min count most_number) l)
    go (no f) =
        let last : bad ≡ most_number = omega arith in
        rw (le-ltb most_part part fair, le-ltb bad (min count most_number) (omega arith), lt-ltb most_number count (omega arith), last)

pub turn_on : (part bad count : ℕ) (ls : List Line) → part ≤ most_part → count ≤ most_number → count ≤ bad → settled part ls ≡ sharing_in_turn part bad count ls
unfolding sharing_in_turn
turn_on part bad count ls fair few h = rw (le-ltb most_part part fair, le-ltb bad (min count most_number) (omega arith), le-ltb most_number count few)

-- what is one where the part is fair is one
pub any_part : (part bad count other others : ℕ) (ls ks : List Line) → (part ≤ most_part → sharing_in_turn part bad count ls ≡ sharing_in_turn part other others ks)
    → sharing_in_turn part bad count ls ≡ sharing_in_turn part other others ks
any_part part bad count other others ls ks same = go (dec_le part most_part)
  where
    go : Dec (part ≤ most_part) → sharing_in_turn part bad count ls ≡ sharing_in_turn part other others ks
    go (yes h) = same h
    go (no f) = sym (turn_part part bad count ls (omega arith)) ∙ turn_part part other others ks (omega arith)

-- of a list the first bad line is one of the first 65
bad_take : (before n : ℕ) (ls : List Line) → first_bad_line before ls ≤ n → first_bad_line before (take n ls) ≡ first_bad_line before ls
bad_take before zero ls h = omega arith
bad_take before (suc n) [] h = refl
bad_take before (suc n) (l ∷ ls) h = go (line_is_sound before l) h (bad_take l.number n ls)
  where
    go : (b : Bool) → cond b (suc (first_bad_line l.number ls)) 0 ≤ suc n
        → (first_bad_line l.number ls ≤ n → first_bad_line l.number (take n ls) ≡ first_bad_line l.number ls)
        → cond b (suc (first_bad_line l.number (take n ls))) 0 ≡ cond b (suc (first_bad_line l.number ls)) 0
    go true k rec = ap suc (rec (omega arith))
    go false k rec = refl

pub bad_of_64 : (ls : List Line) → (first_bad_line 0 (take most_number ls) ≡ first_bad_line 0 ls) × (first_bad_line 0 ls ≤ most_number)
bad_of_64 ls =
    let few : first_bad_line 0 ls ≤ most_number = omega (arith, few_sound 0 ls (omega arith)) in
    (bad_take 0 most_number ls few, few)

pub sharing_part : (part : ℕ) (ls : List Line) → most_part < part → sharing_refused 10 part_place ≡ sharing part ls
sharing_part part ls h = turn_part part _ _ ls h

pub sharing_10 : (part : ℕ) (ls : List Line) → part ≤ most_part → first_bad_line 0 ls < length ls → sharing_refused 10 (first_bad_line 0 ls) ≡ sharing part ls
sharing_10 part ls fair h = let b = bad_of_64 ls in rw b.0 (turn_10 part (first_bad_line 0 ls) (length ls) ls fair b.1 h)

pub sharing_on : (part : ℕ) (ls : List Line) → part ≤ most_part → length ls ≤ first_bad_line 0 ls → settled part ls ≡ sharing part ls
sharing_on part ls fair h = let b = bad_of_64 ls in rw b.0 (turn_on part (first_bad_line 0 ls) (length ls) ls fair (omega (arith, b.1)) h)
