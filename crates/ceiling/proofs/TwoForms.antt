-- The array form and the lent list give the same answer, two outcomes that a contract allows are one, and on a refusal nothing lent
-- changes. Assumes nothing.
use mathlib.Core.Path.{◌≡◌, refl, sym, ap, ◌∙◌}
use mathlib.Core.Bool.{cond}
use mathlib.Core.List.{List, [], ◌∷◌}
use mathlib.Core.Logic.{◌⊎◌, inl, inr}
use Prim.Native.Nat.{ℕ, zero, suc, ◌≤◌, ◌<◌}
use native.Mathlib.Omega.{arith}
use lib.ListN.{length, take, drop, length-map}
use Rattle.share.specs.declared.Answer.{Answer}
use Rattle.share.specs.Sharing.{line_is_sound, Part, sharing}
use Rattle.share.proofs.TwoForms.{sharing_cleared}
use Rattle.ceiling.specs.declared.LimitedLine.{LimitedLine}
use Rattle.ceiling.specs.declared.Ceiled.{Ceiled}
use Rattle.ceiling.specs.Ceiling.{limited_is_sound, first_bad_limited, plain_lines, beyond, uncollected_of, given_up, CeiledPart, ceiled_parts}
use Rattle.ceiling.specs.Ceiling.{CeilingOutcome, second_sharing, both_sharings, ceiling_in_turn, ceiling}
use Rattle.ceiling.specs.Forms.{ceiled_lines, cleared_line, cleared_lines, ceiled_array, LentLimited}
use Rattle.ceiling.specs.Inner.{lend_limited}
use Rattle.ceiling.proofs.Places.{ceiled_front}
use Rattle.ceiling.proofs.Refusals.{few_counted}
use Rattle.ceiling.proofs.NoLimits.{plain_cleared}
use Rattle.ceiling.proofs.Outcomes.{Taken, Refused, outcome, none_given, each_given, same_ceiling}

-- What the lines held in the four fields before plays no part

bad_cleared : (before : ℕ) (ls : List LimitedLine) → first_bad_limited before (cleared_lines ls) ≡ first_bad_limited before ls
unfolding limited_is_sound line_is_sound
bad_cleared before [] = refl
bad_cleared before (l ∷ ls) = ap (λ (n : ℕ). cond (limited_is_sound before l) (suc n) 0) (bad_cleared l.line.number ls)

uncollected_cleared : (ls : List LimitedLine) (ps : List Part) → uncollected_of (cleared_lines ls) ps ≡ uncollected_of ls ps
uncollected_cleared [] ps = refl
uncollected_cleared (l ∷ ls) [] = refl
uncollected_cleared (l ∷ ls) (p ∷ ps) = ap (λ (us : List ℕ). beyond l.limit p.amount ∷ us) (uncollected_cleared ls ps)

both_cleared : (part : ℕ) (ls : List LimitedLine) → both_sharings (cleared_lines ls) (sharing part (plain_lines (cleared_lines ls))) ≡ both_sharings ls (sharing part (plain_lines ls))
unfolding both_sharings second_sharing ceiled_parts given_up
both_cleared part ls =
    rw (plain_cleared ls, sharing_cleared part (plain_lines ls), uncollected_cleared ls (sharing part (plain_lines ls)).parts)

turn_cleared : (part bad count : ℕ) (ls : List LimitedLine) → ceiling_in_turn part bad count (cleared_lines ls) ≡ ceiling_in_turn part bad count ls
unfolding ceiling_in_turn
turn_cleared part bad count ls = rw (both_cleared part ls)

take_cleared : (n : ℕ) (xs : List LimitedLine) → cleared_lines (take n xs) ≡ take n (cleared_lines xs)
take_cleared zero xs = refl
take_cleared (suc n) [] = refl
take_cleared (suc n) (x ∷ xs) = ap (λ (l : List LimitedLine). cleared_line x ∷ l) (take_cleared n xs)

-- the outcome of the first `count` of an array
abbrev pub ceiling_counted : ℕ → List LimitedLine → ℕ → CeilingOutcome
ceiling_counted part lines count = ceiling_in_turn part (first_bad_limited 0 (take count lines)) count (take count lines)

counted_cleared : (part : ℕ) (lines : List LimitedLine) (n : ℕ) → ceiling_counted part (cleared_lines lines) n ≡ ceiling_counted part lines n
counted_cleared part lines n = rw (← take_cleared n lines, bad_cleared 0 (take n lines)) (turn_cleared part _ n (take n lines))

ceiling_cleared : (part : ℕ) (ls : List LimitedLine) → ceiling part (cleared_lines ls) ≡ ceiling part ls
unfolding ceiling
ceiling_cleared part ls =
    rw (← take_cleared 64 ls, bad_cleared 0 (take 64 ls), length-map ls (λ l. cleared_line l)) (turn_cleared part _ (length ls) ls)

-- The array form and the lent list give one outcome: an array that holds the first 64 of the lines that are lent.
pub array_as_list : (part : ℕ) (ls lines : List LimitedLine) → cleared_lines (take (length ls) lines) ≡ cleared_lines (take 64 ls) → ceiling_counted part lines (length ls) ≡ ceiling part ls
array_as_list part ls lines t =
    sym (counted_cleared part lines (length ls)) ∙ ap (ceiling_counted part (cleared_lines lines)) (sym (length-map ls (λ l. cleared_line l)))
    ∙ same_ceiling part (cleared_lines ls) (cleared_lines lines)
    (ap (λ (k : ℕ). take k (cleared_lines lines)) (length-map ls (λ l. cleared_line l)) ∙ sym (take_cleared (length ls) lines) ∙ t ∙ take_cleared 64 ls)
    ∙ ceiling_cleared part ls

-- Two outcomes that a contract allows coincide

pub ceiled_array_determined : (part : ℕ) (lines : List LimitedLine) (count : ℕ) (r q : Ceiled) → r ≡ ceiled_array part lines count → q ≡ ceiled_array part lines count → r ≡ q
ceiled_array_determined part lines count r q e f = e ∙ sym f

pub share_limited_determined : (part : ℕ) (before after other : List LimitedLine) (r q : Answer) → LentLimited part before after r → LentLimited part before other q
    → (r ≡ q) × (after ≡ other)
share_limited_determined part before after other r q l k = (l.says ∙ sym k.says, l.lines ∙ sym k.lines)

-- Lent memory

-- On a refusal no line that was lent changes.
pub lines_kept : (part : ℕ) (before after : List LimitedLine) (r : Answer) → LentLimited part before after r → 0 < r.number → after ≡ before
unfolding ceiling
lines_kept part before after r l h =
    let n : r.number ≡ (ceiling part before).number = ap (λ (a : Answer). a.number) l.says in
    l.lines ∙ ap (λ (ps : List CeiledPart). ceiled_lines ps before) (none_given part _ _ before (omega arith))

-- Else share, amount, what is not collected and what is given up alone change.
pub fields_kept : (part : ℕ) (before after : List LimitedLine) (r : Answer) → LentLimited part before after r → cleared_lines after ≡ cleared_lines before
fields_kept part before after r l = ap cleared_lines l.lines ∙ go (ceiling part before).parts before
  where
    go : (ps : List CeiledPart) (ls : List LimitedLine) → cleared_lines (ceiled_lines ps ls) ≡ cleared_lines ls
    go [] ls = refl
    go (p ∷ ps) [] = refl
    go (p ∷ ps) (l ∷ ls) = ap (λ (x : List LimitedLine). cleared_line l ∷ x) (go ps ls)

take_le : (n : ℕ) (xs : List LimitedLine) → length (take n xs) ≤ n
take_le zero xs = omega arith
take_le (suc n) [] = omega arith
take_le (suc n) (x ∷ xs) = omega (arith, take_le n xs)

-- each line that is counted gets a part, or none does
parts_le : (part : ℕ) (lines : List LimitedLine) (count : ℕ) → length (ceiling_counted part lines count).parts ≤ count
parts_le part lines count = go (outcome part (first_bad_limited 0 (take count lines)) count (take count lines))
  where
    go : Taken part (first_bad_limited 0 (take count lines)) count (take count lines) ⊎ Refused (ceiling_counted part lines count) → length (ceiling_counted part lines count).parts ≤ count
    go (inl t) = omega (arith, each_given part (first_bad_limited 0 (take count lines)) count (take count lines) t, take_le count lines)
    go (inr r) = let none : length (ceiling_counted part lines count).parts ≡ 0 = ap (λ (x : CeilingOutcome). length x.parts) r.is in omega arith

-- THE FRONT OF AN ARRAY that is lent is shared as the array form shares it: the lines cleared before, the others left.
pub front_as_array : (part : ℕ) (lines : List LimitedLine) (count : ℕ) → count ≤ length lines → lend_limited part (cleared_lines lines) count ≡ ceiled_array part lines count
unfolding lend_limited ceiled_array
front_as_array part lines count h =
    let same : ceiling part (take count (cleared_lines lines)) ≡ ceiling_counted part lines count =
    ap (ceiling part) (sym (take_cleared count lines)) ∙ ceiling_cleared part (take count lines) ∙ sym (few_counted part lines count h) in
    rw (same, ceiled_front (ceiling_counted part lines count).parts (cleared_lines lines) count (parts_le part lines count))

-- On a refusal, and beyond the count, the four of the array's lines are 0.
pub array_cleared : (part : ℕ) (lines : List LimitedLine) (count : ℕ) → 0 < (ceiled_array part lines count).number → (ceiled_array part lines count).lines ≡ cleared_lines lines
unfolding ceiled_array
array_cleared part lines count h = ap (λ (ps : List CeiledPart). ceiled_lines ps (cleared_lines lines)) (none_given part _ count (take count lines) h)

pub array_beyond : (part : ℕ) (lines : List LimitedLine) (count : ℕ) → drop count (ceiled_array part lines count).lines ≡ drop count (cleared_lines lines)
unfolding ceiled_array
array_beyond part lines count = behind (ceiling_counted part lines count).parts (cleared_lines lines) count (parts_le part lines count)
  where
    behind : (ps : List CeiledPart) (ls : List LimitedLine) (i : ℕ) → length ps ≤ i → drop i (ceiled_lines ps ls) ≡ drop i ls
    behind [] ls i h = refl
    behind (p ∷ ps) ls zero h = absurd (omega arith)
    behind (p ∷ ps) [] (suc i) h = refl
    behind (p ∷ ps) (l ∷ ls) (suc i) h = behind ps ls i (omega arith)
