-- The array form and the lent list give the same answer, two outcomes that a contract allows are one, and on a refusal nothing lent
-- changes. Assumes nothing.
use mathlib.Core.Path.{◌≡◌, refl, sym, ap, ◌∙◌}
use mathlib.Core.Bool.{Bool, cond}
use mathlib.Core.List.{List, [], ◌∷◌, ◌++◌}
use mathlib.Core.Logic.{◌⊎◌, inl, inr}
use Prim.Native.Nat.{ℕ, zero, suc, ◌+◌, ◌≤◌, ◌<◌}
use native.Mathlib.Omega.{arith}
use lib.ListN.{length, take, length-map, drop}
use Rattle.share.specs.declared.Line.{Line}
use Rattle.share.specs.declared.Shared.{Shared}
use Rattle.share.specs.declared.Answer.{Answer}
use Rattle.share.specs.Sharing.{assessment_fen, compensated, assessed, below, gap, generators_amount, user_amount, weights_of, Part, parts_by, parts, line_is_sound, first_bad_line}
use Rattle.share.specs.Sharing.{SharingOutcome, settled, sharing_in_turn, sharing, most_number}
use Rattle.share.specs.Forms.{cleared, fill_in, sharing_counted, clear, shared_array, Lent}
use Rattle.share.specs.Inner.{lend_front}
use Rattle.share.proofs.Lines.{fill_behind, fill_front}
use Rattle.share.proofs.Counted.{counted_few, same_sharing}
use Rattle.share.proofs.Outcomes.{Taken, Refused, outcome, none_given, each_given}

-- What the lines held as share and amount before plays no part

compensated_cleared : (ls : List Line) → compensated (clear ls) ≡ compensated ls
compensated_cleared [] = refl
compensated_cleared (l ∷ ls) = ap (λ (n : ℕ). l.compensation.0 + n) (compensated_cleared ls)

assessed_cleared : (ls : List Line) → assessed (clear ls) ≡ assessed ls
assessed_cleared [] = refl
assessed_cleared (l ∷ ls) = ap (λ (n : ℕ). assessment_fen l + n) (assessed_cleared ls)

weights_cleared : (b : Bool) (ls : List Line) → weights_of b (clear ls) ≡ weights_of b ls
weights_cleared b [] = refl
weights_cleared b (l ∷ ls) = ap (λ (ws : List ℕ). weights_of b (l ∷ []) ++ ws) (weights_cleared b ls)

pub bad_cleared : (before : ℕ) (ls : List Line) → first_bad_line before (clear ls) ≡ first_bad_line before ls
unfolding line_is_sound
bad_cleared before [] = refl
bad_cleared before (l ∷ ls) = ap (λ (n : ℕ). cond (line_is_sound before l) (suc n) 0) (bad_cleared l.number ls)

parts_cleared : (b : Bool) (ls : List Line) (ss : List ℕ) → parts_by b (clear ls) ss ≡ parts_by b ls ss
parts_cleared b [] ss = refl
parts_cleared b (l ∷ ls) [] = refl
parts_cleared b (l ∷ ls) (s ∷ ss) = ap (λ (ps : List Part). parts_by b (l ∷ []) (s ∷ []) ++ ps) (parts_cleared b ls ss)

pub turn_cleared : (part bad count : ℕ) (ls : List Line) → sharing_in_turn part bad count (clear ls) ≡ sharing_in_turn part bad count ls
unfolding sharing_in_turn settled parts user_amount generators_amount gap
turn_cleared part bad count ls = rw (compensated_cleared ls, assessed_cleared ls, weights_cleared (below ls) ls, parts_cleared (below ls) ls)

take_cleared : (n : ℕ) (xs : List Line) → clear (take n xs) ≡ take n (clear xs)
take_cleared zero xs = refl
take_cleared (suc n) [] = refl
take_cleared (suc n) (x ∷ xs) = ap (λ (l : List Line). cleared x ∷ l) (take_cleared n xs)

pub sharing_cleared : (part : ℕ) (ls : List Line) → sharing part (clear ls) ≡ sharing part ls
sharing_cleared part ls =
    rw (← take_cleared most_number ls, bad_cleared 0 (take most_number ls), length-map ls (λ l. cleared l)) (turn_cleared part _ (length ls) ls)

-- The same answer

counted_cleared : (part : ℕ) (lines : List Line) (n : ℕ) → sharing_counted part (clear lines) n ≡ sharing_counted part lines n
counted_cleared part lines n = rw (← take_cleared n lines, bad_cleared 0 (take n lines)) (turn_cleared part _ n (take n lines))

-- The array form and the lent list give one outcome: an array that holds the first 64 of the lines that are lent.
pub array_as_list : (part : ℕ) (ls lines : List Line) → clear (take (length ls) lines) ≡ clear (take 64 ls) → sharing_counted part lines (length ls) ≡ sharing part ls
array_as_list part ls lines t =
    sym (counted_cleared part lines (length ls)) ∙ ap (sharing_counted part (clear lines)) (sym (length-map ls (λ l. cleared l)))
    ∙ same_sharing part (clear ls) (clear lines)
    (ap (λ (k : ℕ). take k (clear lines)) (length-map ls (λ l. cleared l)) ∙ sym (take_cleared (length ls) lines) ∙ t ∙ take_cleared 64 ls)
    ∙ sharing_cleared part ls

take_le : (n : ℕ) (xs : List Line) → length (take n xs) ≤ n
take_le zero xs = omega arith
take_le (suc n) [] = omega arith
take_le (suc n) (x ∷ xs) = omega (arith, take_le n xs)

-- each line that is counted gets a part, or none does
parts_le : (part : ℕ) (lines : List Line) (count : ℕ) → length (sharing_counted part lines count).parts ≤ count
parts_le part lines count = go (outcome part bad count (take count lines))
  where
    bad : ℕ
    bad = first_bad_line 0 (take count lines)

    o : SharingOutcome
    o = sharing_counted part lines count

    go : Taken part bad count (take count lines) ⊎ Refused o → length o.parts ≤ count
    go (inl t) = omega (arith, each_given part bad count (take count lines) t, take_le count lines)
    go (inr r) = let none : length o.parts ≡ 0 = ap (λ (x : SharingOutcome). length x.parts) r.is in omega arith

-- THE FRONT OF AN ARRAY that is lent is shared as the array form shares it: the lines cleared before, the others left.
pub front_as_array : (part : ℕ) (lines : List Line) (count : ℕ) → count ≤ length lines → lend_front part (clear lines) count ≡ shared_array part lines count
unfolding lend_front shared_array
front_as_array part lines count h =
    let same : sharing part (take count (clear lines)) ≡ sharing_counted part lines count =
    ap (sharing part) (sym (take_cleared count lines)) ∙ sharing_cleared part (take count lines) ∙ sym (counted_few part lines count h) in
    rw (same, fill_front (sharing_counted part lines count).parts (clear lines) count (parts_le part lines count))

-- Two outcomes that a contract allows coincide

pub share_determined : (part : ℕ) (lines : List Line) (count : ℕ) (r q : Shared) → r ≡ shared_array part lines count → q ≡ shared_array part lines count → r ≡ q
share_determined part lines count r q e f = e ∙ sym f

pub share_front_determined : (part : ℕ) (lines : List Line) (count : ℕ) (r q : Shared) → r ≡ shared_array part lines count → q ≡ shared_array part lines count → r ≡ q
share_front_determined = share_determined

pub share_lines_determined : (part : ℕ) (before after other : List Line) (r q : Answer) → Lent part before after r → Lent part before other q → (r ≡ q) × (after ≡ other)
share_lines_determined part before after other r q l k = (l.says ∙ sym k.says, l.lines ∙ sym k.lines)

-- Lent memory

-- On a refusal no line that was lent changes.
pub lines_kept : (part : ℕ) (before after : List Line) (r : Answer) → Lent part before after r → 0 < r.number → after ≡ before
lines_kept part before after r l h =
    let n : r.number ≡ (sharing part before).number = ap (λ (a : Answer). a.number) l.says in
    l.lines ∙ ap (λ (ps : List Part). fill_in ps before) (none_given part _ _ before (omega arith))

-- Else share and amount alone change.
pub fields_kept : (part : ℕ) (before after : List Line) (r : Answer) → Lent part before after r → clear after ≡ clear before
fields_kept part before after r l = ap clear l.lines ∙ go (sharing part before).parts before
  where
    go : (ps : List Part) (ls : List Line) → clear (fill_in ps ls) ≡ clear ls
    go [] ls = refl
    go (p ∷ ps) [] = refl
    go (p ∷ ps) (l ∷ ls) = ap (λ (x : List Line). cleared l ∷ x) (go ps ls)

-- On a refusal, and beyond the count, share and amount of the array's lines are 0.
pub array_cleared : (part : ℕ) (lines : List Line) (count : ℕ) → 0 < (shared_array part lines count).number → (shared_array part lines count).lines ≡ clear lines
unfolding shared_array
array_cleared part lines count h = ap (λ (ps : List Part). fill_in ps (clear lines)) (none_given part _ count (take count lines) h)

pub array_beyond : (part : ℕ) (lines : List Line) (count : ℕ) → drop count (shared_array part lines count).lines ≡ drop count (clear lines)
unfolding shared_array
array_beyond part lines count = fill_behind (sharing_counted part lines count).parts (clear lines) count (parts_le part lines count)
