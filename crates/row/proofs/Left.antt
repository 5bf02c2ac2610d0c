-- What one more byte of a text does to the lines that are left: in a line, at its end, and at the text's end. Assumes nothing.
use mathlib.Core.Path.{◌≡◌, ap, sym}
use mathlib.Core.Bool.{Bool, true, false}
use mathlib.Core.List.{List, [], ◌∷◌, map}
use Prim.Native.Nat.{ℕ, ◌+◌, ◌<◌}
use native.Mathlib.Numerals.{add-one}
use lib.ListN.{length, drop, get_or}
use lib.Seq.{drop-cons}
use borrow.Author.Tests.{ne_eqb, eq-eqb}
use Rattle.row.specs.Numbers.{onto, lines_of}
use Rattle.row.specs.Inner.{left_from}

-- the next byte
pub next_byte : (text : List ℕ) (i : ℕ) → i < length text → drop i text ≡ get_or text i 0 ∷ drop (i + 1) text
next_byte text i h = rw (add-one, drop-cons text i 0)

module _ {A : Type 0} (whole : List ℕ → A) where
  -- before any byte of a line the lines that are left are whole
  pub left_fresh : (begun : Bool) (this : List ℕ → A) → begun ≡ false → ((l : List ℕ) → this l ≡ whole l) → (ls : List (List ℕ)) → left_from begun this whole ls ≡ map whole ls
  left_fresh begun this e h [] = rw e
  left_fresh begun this e h (l ∷ ls) = ap (λ (x : A). x ∷ map whole ls) (h l)

  -- a byte of a line
  pub left_onto : (begun next : Bool) (this after : List ℕ → A) (b : ℕ) → next ≡ true → ((l : List ℕ) → after l ≡ this (b ∷ l)) → (ls : List (List ℕ))
      → left_from next after whole ls ≡ left_from begun this whole (onto b ls)
  left_onto begun next this after b e h [] = rw e (ap (λ (x : A). x ∷ []) (h []))
  left_onto begun next this after b e h (l ∷ ls) = ap (λ (x : A). x ∷ map whole ls) (h l)

  module _ (begun next : Bool) (this after : List ℕ → A) (b : ℕ) (rest : List ℕ) where
    -- a line feed
    pub left_feed : b ≡ 10 → next ≡ false → ((l : List ℕ) → after l ≡ whole l) → left_from begun this whole (lines_of (b ∷ rest)) ≡ this [] ∷ left_from next after whole (lines_of rest)
    left_feed e f h = rw (eq-eqb b 10 e) (ap (λ (xs : List A). this [] ∷ xs) (sym (left_fresh next after f h (lines_of rest))))

    -- another byte
    pub left_byte : (b ≡ 10 → ⊥) → next ≡ true → ((l : List ℕ) → after l ≡ this (b ∷ l)) → left_from next after whole (lines_of rest) ≡ left_from begun this whole (lines_of (b ∷ rest))
    left_byte ne f h = rw (ne_eqb b 10 ne) (left_onto begun next this after b f h (lines_of rest))
