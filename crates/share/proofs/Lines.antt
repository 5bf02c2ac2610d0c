-- Lines, their weights and their parts, place by place. Assumes nothing.
use mathlib.Core.Path.{◌≡◌, refl, ap, ◌∙◌}
use mathlib.Core.Bool.{Bool}
use mathlib.Core.List.{List, [], ◌∷◌, ◌++◌}
use Prim.Native.Nat.{ℕ, zero, suc, ◌≤◌, ◌<◌}
use native.Mathlib.Nat.{not-suc-le-zero}
use native.Mathlib.Omega.{arith}
use lib.IntN.{ℤ}
use lib.ListN.{length, get_or, take, drop, take-append-drop, length-map}
use lib.Seq.{length-take-le, get_or-take}
use Rattle.share.specs.declared.Line.{Line}
use Rattle.share.specs.Sharing.{Part, part_of, parts_by}
use Rattle.share.specs.Forms.{filled, fill_in, cleared, clear}
use Rattle.share.specs.Limits.{LineWithin, LinesWithin}

-- a line of the first n, as the array has it
pub within_at : (xs : List Line) (n i : ℕ) (d : Line) → LinesWithin (take n xs) → i < n → n ≤ length xs → LineWithin (get_or xs i d)
within_at xs n i d all h k = rw (get_or-take n xs i d h) at (all i d (rw (length-take-le n xs k) h))

pub length_parts : (is_below : Bool) (ls : List Line) (ss : List ℕ) → length ss ≡ length ls → length (parts_by is_below ls ss) ≡ length ls
length_parts is_below [] ss h = refl
length_parts is_below (l ∷ ls) [] h = absurd (omega arith)
length_parts is_below (l ∷ ls) (s ∷ ss) h = ap suc (length_parts is_below ls ss (omega arith))

pub part_at : (is_below : Bool) (ls : List Line) (ss : List ℕ) (i : ℕ) (d : Line) (p : Part) → length ss ≡ length ls → i < length ls
    → get_or (parts_by is_below ls ss) i p ≡ part_of is_below (get_or ls i d) (get_or ss i 0)
part_at is_below [] ss i d p e h = absurd (not-suc-le-zero h)
part_at is_below (l ∷ ls) [] i d p e h = absurd (omega arith)
part_at is_below (l ∷ ls) (s ∷ ss) zero d p e h = refl
part_at is_below (l ∷ ls) (s ∷ ss) (suc i) d p e h = part_at is_below ls ss i d p (omega arith) (omega arith)

-- filling: as far as there are parts, and no further
pub length_fill : (ps : List Part) (ls : List Line) → length (fill_in ps ls) ≡ length ls
length_fill [] ls = refl
length_fill (p ∷ ps) [] = refl
length_fill (p ∷ ps) (l ∷ ls) = ap suc (length_fill ps ls)

pub fill_at : (ps : List Part) (ls : List Line) (i : ℕ) (d : Line) (p : Part) → i < length ps → i < length ls
    → get_or (fill_in ps ls) i d ≡ filled (get_or ls i d) (get_or ps i p)
fill_at [] ls i d p h k = absurd (not-suc-le-zero h)
fill_at (q ∷ ps) [] i d p h k = absurd (not-suc-le-zero k)
fill_at (q ∷ ps) (l ∷ ls) zero d p h k = refl
fill_at (q ∷ ps) (l ∷ ls) (suc i) d p h k = fill_at ps ls i d p (omega arith) (omega arith)

pub fill_behind : (ps : List Part) (ls : List Line) (i : ℕ) → length ps ≤ i → drop i (fill_in ps ls) ≡ drop i ls
fill_behind [] ls i h = refl
fill_behind (q ∷ ps) [] i h = refl
fill_behind (q ∷ ps) (l ∷ ls) zero h = absurd (omega arith)
fill_behind (q ∷ ps) (l ∷ ls) (suc i) h = fill_behind ps ls i (omega arith)

pub fill_front : (ps : List Part) (ls : List Line) (n : ℕ) → length ps ≤ n → fill_in ps (take n ls) ++ drop n ls ≡ fill_in ps ls
fill_front [] ls n h = take-append-drop n ls
fill_front (p ∷ ps) [] zero h = refl
fill_front (p ∷ ps) [] (suc n) h = refl
fill_front (p ∷ ps) (l ∷ ls) zero h = absurd (omega arith)
fill_front (p ∷ ps) (l ∷ ls) (suc n) h = ap (λ (x : List Line). filled l p ∷ x) (fill_front ps ls n (omega arith))

-- a line from its share and its amount
pub filled_is : (is_below : Bool) (l : Line) (s : ℕ) (x y : ℤ) → x ≡ (part_of is_below l s).share → y ≡ (part_of is_below l s).amount
    → filled l (record { share = x; amount = y }) ≡ filled l (part_of is_below l s)
filled_is is_below l s x y ex ey = rw (ex, ey)

pub length_filled : (ps : List Part) (xs : List Line) → length (fill_in ps (clear xs)) ≡ length xs
length_filled ps xs = length_fill ps (clear xs) ∙ length-map xs (λ l. cleared l)
