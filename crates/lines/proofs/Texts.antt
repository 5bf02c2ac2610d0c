-- Which lines of a text are bad. Assumes nothing.
use mathlib.Core.Path.{◌≡◌, refl}
use mathlib.Core.Bool.{Bool, true, false, cond, ◌&&◌, true≢false}
use mathlib.Core.List.{List, [], ◌∷◌, ◌++◌}
use Prim.Native.Nat.{ℕ}
use lib.Dec.{eqb}
use lib.ListN.{drop}
use borrow.Author.Tests.{ne_eqb}
use Rattle.row.specs.Numbers.{onto, parts_of, is_digit, digits, not_empty, is_number, numbers, numbers_in}
use Rattle.row.proofs.Texts.{and_false}
use Rattle.share.specs.Forms.{blank_line}
use Rattle.lines.specs.Text.{line_of}

bad_line_lem : (l : List ℕ) → numbers (parts_of 32 l) ≡ false → line_of l ≡ blank_line
unfolding line_of numbers_in
bad_line_lem l h = rw h

-- An empty line is a bad line;
pub empty_line : line_of [] ≡ blank_line
empty_line = bad_line_lem [] refl

-- so is one with a blank in front,
pub leading_blank : (l : List ℕ) → line_of (32 ∷ l) ≡ blank_line
leading_blank l = bad_line_lem (32 ∷ l) refl

-- the pieces, but perhaps the first, have an empty one
empty_piece : (pre rest : List ℕ) (qs : List (List ℕ)) → parts_of 32 rest ≡ [] ∷ qs → numbers (drop 1 (parts_of 32 (pre ++ 32 ∷ rest))) ≡ false
empty_piece [] rest qs h = rw h
empty_piece (x ∷ pre) rest qs h = go (eqb x 32) (parts_of 32 (pre ++ 32 ∷ rest)) (empty_piece pre rest qs h)
  where
    go : (t : Bool) (ps : List (List ℕ)) → numbers (drop 1 ps) ≡ false → numbers (drop 1 (cond t ([] ∷ ps) (onto x ps))) ≡ false
    go t [] k = absurd (true≢false k)
    go true (p ∷ ps) k = rw k (and_false (is_number p))
    go false (p ∷ ps) k = k

behind_blank : (pre rest : List ℕ) (qs : List (List ℕ)) → parts_of 32 rest ≡ [] ∷ qs → line_of (pre ++ 32 ∷ rest) ≡ blank_line
behind_blank pre rest qs h = bad_line_lem (pre ++ 32 ∷ rest) (go (parts_of 32 (pre ++ 32 ∷ rest)) (empty_piece pre rest qs h))
  where
    go : (ps : List (List ℕ)) → numbers (drop 1 ps) ≡ false → numbers ps ≡ false
    go [] k = absurd (true≢false k)
    go (p ∷ ps) k = rw k (and_false (is_number p))

-- with two blanks side by side,
pub double_blank : (pre post : List ℕ) → line_of (pre ++ 32 ∷ 32 ∷ post) ≡ blank_line
double_blank pre post = behind_blank pre (32 ∷ post) (parts_of 32 post) refl

-- with a blank behind,
pub trailing_blank : (pre : List ℕ) → line_of (pre ++ 32 ∷ []) ≡ blank_line
trailing_blank pre = behind_blank pre [] [] refl

all_digits : List (List ℕ) → Bool
all_digits [] = true
all_digits (p ∷ ps) = digits p && all_digits ps

no_numbers : (ps : List (List ℕ)) → all_digits ps ≡ false → numbers ps ≡ false
unfolding all_digits
no_numbers [] h = absurd (true≢false h)
no_numbers (p ∷ ps) h = go (digits p) h (no_numbers ps)
  where
    go : (d : Bool) → (d && all_digits ps) ≡ false → (all_digits ps ≡ false → numbers ps ≡ false) → (d && not_empty p && numbers ps) ≡ false
    go false k rec = refl
    go true k rec = rw (rec k) (and_false (not_empty p))

foreign : (pre post : List ℕ) (b : ℕ) → is_digit b ≡ false → (b ≡ 32 → ⊥) → all_digits (parts_of 32 (pre ++ b ∷ post)) ≡ false
unfolding all_digits
foreign [] post b d ne = rw (ne_eqb b 32 ne) (go (parts_of 32 post))
  where
    go : (ps : List (List ℕ)) → all_digits (onto b ps) ≡ false
    go [] = rw d
    go (p ∷ ps) = rw d
foreign (x ∷ pre) post b d ne = go (eqb x 32) (parts_of 32 (pre ++ b ∷ post)) (foreign pre post b d ne)
  where
    under : (a e r : Bool) → (e && r) ≡ false → (a && e && r) ≡ false
    under true e r h = h
    under false e r h = refl

    go : (t : Bool) (ps : List (List ℕ)) → all_digits ps ≡ false → all_digits (cond t ([] ∷ ps) (onto x ps)) ≡ false
    go true ps k = k
    go false [] k = absurd (true≢false k)
    go false (p ∷ ps) k = under (is_digit x) (digits p) (all_digits ps) k

-- or with any byte that is no digit and no blank, wherever it stands: a carriage return, a tab, a sign, a NUL.
pub foreign_byte : (pre post : List ℕ) (b : ℕ) → is_digit b ≡ false → (b ≡ 32 → ⊥) → line_of (pre ++ b ∷ post) ≡ blank_line
foreign_byte pre post b d ne = bad_line_lem (pre ++ b ∷ post) (no_numbers (parts_of 32 (pre ++ b ∷ post)) (foreign pre post b d ne))
