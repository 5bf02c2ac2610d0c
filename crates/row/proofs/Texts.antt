-- What the definitions of lines, parts and numbers come to: where a line ends and a part, and what a number is worth. Assumes nothing.
use mathlib.Core.Path.{◌≡◌, refl, ap}
use mathlib.Core.Bool.{Bool, true, false, cond, ◌&&◌, ◌||◌}
use mathlib.Core.List.{List, [], ◌∷◌, ◌++◌}
use Prim.Native.Nat.{ℕ, ◌+◌, ◌*◌, ◌-◌, ◌≤◌, ◌<◌}
use native.Mathlib.Omega.{arith}
use lib.Dec.{leb, eqb}
use borrow.Author.Tests.{ne_eqb, eq-eqb, leb-true}
use Rattle.le.proofs.Tests.{each}
use Rattle.row.specs.Numbers.{onto, lines_of, parts_of, digit_byte, is_digit, digits, not_empty, is_number, value}

-- Tests

pub and_false : (t : Bool) → (t && false) ≡ false
and_false true = refl
and_false false = refl

pub or_true : (t : Bool) → (t || true) ≡ true
or_true true = refl
or_true false = refl

-- Lines and parts

-- no byte of a list is c
abbrev pub Without : ℕ → List ℕ → Type 0
Without c [] = Unit {0}
Without c (b ∷ bs) = (b ≡ c → ⊥) × Without c bs

-- A line ends at its line feed, and the text goes on behind it;
pub line_first : (l rest : List ℕ) → Without 10 l → lines_of (l ++ 10 ∷ rest) ≡ l ∷ lines_of rest
line_first [] rest h = refl
line_first (b ∷ l) rest h = rw (ne_eqb b 10 h.0, line_first l rest h.1)

-- the last line may have none.
pub line_last : (b : ℕ) (l : List ℕ) → Without 10 (b ∷ l) → lines_of (b ∷ l) ≡ (b ∷ l) ∷ []
line_last b [] h = rw (ne_eqb b 10 h.0)
line_last b (c ∷ l) h = rw (ne_eqb b 10 h.0) (ap (onto b) (line_last c l h.1))

module _ (separator : ℕ) where
  -- A part ends at a single separator, and the line goes on behind it;
  pub part_first : (p rest : List ℕ) → Without separator p → parts_of separator (p ++ separator ∷ rest) ≡ p ∷ parts_of separator rest
  part_first [] rest h = rw (eq-eqb separator separator refl)
  part_first (b ∷ p) rest h = rw (ne_eqb b separator h.0, part_first p rest h.1)

  -- the last part ends with the line.
  pub part_last : (p : List ℕ) → Without separator p → parts_of separator p ≡ p ∷ []
  part_last [] h = refl
  part_last (b ∷ p) h = rw (ne_eqb b separator h.0, part_last p h.1)

  -- A line has a first part: what holds of a part and those behind it holds of a line's.
  pub by_parts : (P : List (List ℕ) → Type 0) → ((p : List ℕ) (ps : List (List ℕ)) → P (p ∷ ps)) → (l : List ℕ) → P (parts_of separator l)
  by_parts P h [] = h [] []
  by_parts P h (x ∷ l) = go (eqb x separator) (parts_of separator l)
    where
      go : (t : Bool) (ps : List (List ℕ)) → P (cond t ([] ∷ ps) (onto x ps))
      go true ps = h [] ps
      go false [] = h (x ∷ []) []
      go false (p ∷ ps) = h (x ∷ p) ps

-- Numbers

-- a digit is no line feed, no blank, no comma
pub digit_is_not : (b c : ℕ) → is_digit b ≡ true → c < digit_byte 0 → b ≡ c → ⊥
digit_is_not b c h k e = omega (arith, leb-true (digit_byte 0) b (each (leb (digit_byte 0) b) (leb b (digit_byte 9) ∷ []) h).0, e)

-- A zero in front changes no number.
pub zero_first : (p : List ℕ) → is_number p ≡ true → (is_number (48 ∷ p) ≡ true) × (value 0 (48 ∷ p) ≡ value 0 p)
zero_first p h = (rw (each (digits p) (not_empty p ∷ []) h).0, refl)

-- A number grows with its digits.
pub grows : (v : ℕ) (p : List ℕ) → v ≤ value v p
grows v [] = omega arith
grows v (b ∷ p) = let g = grows (v * 10 + (b - 48)) p in omega arith
