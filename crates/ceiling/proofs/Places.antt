-- Lines with limits, what is not collected of them and what they get, place by place. Assumes nothing.
use mathlib.Core.Path.{◌≡◌, refl, sym, ap, ◌∙◌}
use mathlib.Core.Bool.{true, false}
use mathlib.Core.List.{List, [], ◌∷◌, ◌++◌}
use Prim.Native.Nat.{ℕ, zero, suc, ◌*◌, ◌≤◌, ◌<◌}
use native.Mathlib.Nat.{not-suc-le-zero}
use native.Mathlib.Omega.{arith}
use lib.ListN.{length, get_or, take, drop, take-append-drop, length-map}
use lib.Seq.{length-take-le, get_or-take}
use Rattle.apportion.specs.Apportion.{total}
use Rattle.share.specs.declared.Line.{Line}
use Rattle.share.specs.Sharing.{Part}
use Rattle.share.specs.Forms.{fill_in, blank_line}
use Rattle.share.proofs.Lists.{get_d_mapped}
use Rattle.ceiling.specs.declared.LimitedLine.{LimitedLine}
use Rattle.ceiling.specs.Ceiling.{limited_is_sound, first_bad_limited, plain_lines, beyond, positive, uncollected_of, positives, CeiledPart, ceiled_part, ceiled_by}
use Rattle.ceiling.specs.Forms.{ceiled_line, ceiled_lines}
use Rattle.ceiling.specs.Inner.{blank_limited, part_in, parts_in, Small}
use Rattle.ceiling.proofs.Signs.{beyond_le, positive_le}

pub bad_step : (before : ℕ) (l : LimitedLine) (ls : List LimitedLine) → limited_is_sound before l ≡ true
    → first_bad_limited before (l ∷ ls) ≡ suc (first_bad_limited l.line.number ls)
bad_step before l ls e = rw e

pub bad_here : (before : ℕ) (l : LimitedLine) (ls : List LimitedLine) → limited_is_sound before l ≡ false → first_bad_limited before (l ∷ ls) ≡ 0
bad_here before l ls e = rw e

-- What is not collected, and the positive amounts

pub length_parts : (xs : List Line) (n : ℕ) → n ≤ length xs → length (parts_in (take n xs)) ≡ n
length_parts xs n k = length-map (take n xs) _ ∙ length-take-le n xs k

pub part_in_lem : (xs : List Line) (n i : ℕ) (p : Part) → i < n → n ≤ length xs → get_or (parts_in (take n xs)) i p ≡ part_in (get_or xs i blank_line)
part_in_lem xs n i p h k =
    get_d_mapped (λ l. part_in l) (take n xs) i blank_line p (rw (length-take-le n xs k) h) ∙ ap (λ (l : Line). part_in l) (get_or-take n xs i blank_line h)

pub length_parts_in : (xs : List Line) → length (parts_in xs) ≡ length xs
length_parts_in xs = length-map xs _

pub part_in_at : (xs : List Line) (i : ℕ) (p : Part) → i < length xs → get_or (parts_in xs) i p ≡ part_in (get_or xs i blank_line)
part_in_at xs i p h = get_d_mapped (λ l. part_in l) xs i blank_line p h

pub length_uncollected : (ls : List LimitedLine) (ps : List Part) → length ps ≡ length ls → length (uncollected_of ls ps) ≡ length ls
length_uncollected [] ps h = refl
length_uncollected (l ∷ ls) [] h = absurd (omega arith)
length_uncollected (l ∷ ls) (p ∷ ps) h = ap suc (length_uncollected ls ps (omega arith))

pub uncollected_at : (ls : List LimitedLine) (ps : List Part) (i : ℕ) (d : LimitedLine) (p : Part) → length ps ≡ length ls → i < length ls
    → get_or (uncollected_of ls ps) i 0 ≡ beyond (get_or ls i d).limit (get_or ps i p).amount
uncollected_at [] ps i d p e h = absurd (not-suc-le-zero h)
uncollected_at (l ∷ ls) [] i d p e h = absurd (omega arith)
uncollected_at (l ∷ ls) (q ∷ ps) zero d p e h = refl
uncollected_at (l ∷ ls) (q ∷ ps) (suc i) d p e h = uncollected_at ls ps i d p (omega arith) (omega arith)

pub uncollected_of_lem : (xs : List LimitedLine) (ys : List Line) (i : ℕ) → length ys ≡ length xs → i < length xs
    → get_or (uncollected_of xs (parts_in ys)) i 0 ≡ beyond (get_or xs i blank_limited).limit (get_or ys i blank_line).amount.0
uncollected_of_lem xs ys i e h =
    uncollected_at xs (parts_in ys) i blank_limited (part_in blank_line) (length_parts_in ys ∙ e) h
    ∙ ap (λ (p : Part). beyond (get_or xs i blank_limited).limit p.amount) (part_in_at ys i (part_in blank_line) (omega arith))

pub length_positives : (ys : List Line) → length (positives (parts_in ys)) ≡ length ys
length_positives ys = length-map (parts_in ys) _ ∙ length_parts_in ys

pub positive_of : (ys : List Line) (i : ℕ) → i < length ys → get_or (positives (parts_in ys)) i 0 ≡ positive (get_or ys i blank_line).amount.0
positive_of ys i h =
    get_d_mapped (λ (p : Part). positive p.amount) (parts_in ys) i (part_in blank_line) 0 (rw (length_parts_in ys) h)
    ∙ ap (λ (p : Part). positive p.amount) (part_in_at ys i (part_in blank_line) h)

-- their sums, where no amount is above a bound

pub uncollected_sum_le : (m : ℕ) (ls : List LimitedLine) (ps : List Part) → Small m ps → total (uncollected_of ls ps) ≤ length ps * m
uncollected_sum_le m [] ps h = omega arith
uncollected_sum_le m (l ∷ ls) [] h = omega arith
uncollected_sum_le m (l ∷ ls) (p ∷ ps) h =
    omega (arith, beyond_le l.limit p.amount, h 0 p (omega arith), uncollected_sum_le m ls ps (λ i q k. h (suc i) q (omega arith)))

pub positives_sum_le : (m : ℕ) (ps : List Part) → Small m ps → total (positives ps) ≤ length ps * m
positives_sum_le m [] h = omega arith
positives_sum_le m (p ∷ ps) h = omega (arith, positive_le p.amount, h 0 p (omega arith), positives_sum_le m ps (λ i q k. h (suc i) q (omega arith)))

-- What each line gets

pub length_by : (ps : List Part) (us gs : List ℕ) → length us ≡ length ps → length gs ≡ length ps → length (ceiled_by ps us gs) ≡ length ps
length_by [] us gs h k = refl
length_by (p ∷ ps) [] gs h k = absurd (omega arith)
length_by (p ∷ ps) (u ∷ us) [] h k = absurd (omega arith)
length_by (p ∷ ps) (u ∷ us) (g ∷ gs) h k = ap suc (length_by ps us gs (omega arith) (omega arith))

pub by_at : (ps : List Part) (us gs : List ℕ) (i : ℕ) (p : Part) (c : CeiledPart) → length us ≡ length ps → length gs ≡ length ps → i < length ps
    → get_or (ceiled_by ps us gs) i c ≡ ceiled_part (get_or ps i p) (get_or us i 0) (get_or gs i 0)
by_at [] us gs i p c h k l = absurd (not-suc-le-zero l)
by_at (q ∷ ps) [] gs i p c h k l = absurd (omega arith)
by_at (q ∷ ps) (u ∷ us) [] i p c h k l = absurd (omega arith)
by_at (q ∷ ps) (u ∷ us) (g ∷ gs) zero p c h k l = refl
by_at (q ∷ ps) (u ∷ us) (g ∷ gs) (suc i) p c h k l = by_at ps us gs i p c (omega arith) (omega arith) (omega arith)

pub length_ceiled : (cs : List CeiledPart) (ls : List LimitedLine) → length (ceiled_lines cs ls) ≡ length ls
length_ceiled [] ls = refl
length_ceiled (c ∷ cs) [] = refl
length_ceiled (c ∷ cs) (l ∷ ls) = ap suc (length_ceiled cs ls)

pub ceiled_at : (cs : List CeiledPart) (ls : List LimitedLine) (i : ℕ) (d : LimitedLine) (c : CeiledPart) → i < length cs → i < length ls
    → get_or (ceiled_lines cs ls) i d ≡ ceiled_line (get_or ls i d) (get_or cs i c)
ceiled_at [] ls i d c h k = absurd (not-suc-le-zero h)
ceiled_at (b ∷ cs) [] i d c h k = absurd (not-suc-le-zero k)
ceiled_at (b ∷ cs) (l ∷ ls) zero d c h k = refl
ceiled_at (b ∷ cs) (l ∷ ls) (suc i) d c h k = ceiled_at cs ls i d c (omega arith) (omega arith)

pub ceiled_front : (cs : List CeiledPart) (ls : List LimitedLine) (n : ℕ) → length cs ≤ n → ceiled_lines cs (take n ls) ++ drop n ls ≡ ceiled_lines cs ls
ceiled_front [] ls n h = take-append-drop n ls
ceiled_front (c ∷ cs) [] zero h = refl
ceiled_front (c ∷ cs) [] (suc n) h = refl
ceiled_front (c ∷ cs) (l ∷ ls) zero h = absurd (omega arith)
ceiled_front (c ∷ cs) (l ∷ ls) (suc n) h = ap (λ (x : List LimitedLine). ceiled_line l c ∷ x) (ceiled_front cs ls n (omega arith))

abbrev no_part : CeiledPart
no_part = ceiled_part (part_in blank_line) 0 0

abbrev pub got : List Line → List ℕ → List ℕ → List CeiledPart
got ys us gs = ceiled_by (parts_in ys) us gs

-- the lines with what they get, at a place
pub got_at : (xs : List LimitedLine) (ys : List Line) (us gs : List ℕ) → length ys ≡ length xs → length us ≡ length xs → length gs ≡ length xs → (i : ℕ) → i < length xs
    → get_or (ceiled_lines (got ys us gs) xs) i blank_limited ≡ ceiled_line (get_or xs i blank_limited) (ceiled_part (part_in (get_or ys i blank_line)) (get_or us i 0) (get_or gs i 0))
got_at xs ys us gs ey eu eg i h =
    let lp : length (parts_in ys) ≡ length xs = length_parts_in ys ∙ ey in
    let lb : length (got ys us gs) ≡ length xs = length_by (parts_in ys) us gs (eu ∙ sym lp) (eg ∙ sym lp) ∙ lp in
    ceiled_at (got ys us gs) xs i blank_limited no_part (omega arith) h
    ∙ rw (by_at (parts_in ys) us gs i (part_in blank_line) no_part (eu ∙ sym lp) (eg ∙ sym lp) (omega arith), part_in_at ys i (part_in blank_line) (omega arith))

-- The parts that the first sharing filled in
pub parts_back : (ps : List Part) (ls : List Line) → length ps ≤ length ls → parts_in (take (length ps) (fill_in ps ls)) ≡ ps
parts_back [] ls h = refl
parts_back (p ∷ ps) [] h = absurd (omega arith)
parts_back (p ∷ ps) (l ∷ ls) h = ap (λ (x : List Part). p ∷ x) (parts_back ps ls (omega arith))

pub take_plain : (n : ℕ) (ls : List LimitedLine) → take n (plain_lines ls) ≡ plain_lines (take n ls)
take_plain zero ls = refl
take_plain (suc n) [] = refl
take_plain (suc n) (l ∷ ls) = ap (λ (x : List Line). l.line ∷ x) (take_plain n ls)
