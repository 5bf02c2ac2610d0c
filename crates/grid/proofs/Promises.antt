-- What holds of every text, over the definitions. Assumes nothing.
use mathlib.Core.Path.{◌≡◌, refl, ap, sym, ◌∙◌}
use mathlib.Core.Bool.{Bool, true, false, cond, ◌&&◌, ◌||◌}
use mathlib.Core.List.{List, [], ◌∷◌, map}
use Prim.Native.Nat.{ℕ}
use lib.Dec.{eqb}
use borrow.Author.Tests.{eqb-true}
use Rattle.le.proofs.Tests.{each}
use Rattle.row.specs.Numbers.{lines_of, is_digit}
use Rattle.grid.specs.Grid.{unmarked, comma, commas, has_digit, headless, carriage_return, plain, is_blank, unless_blank, trimmed, body_of}

-- the lines that have a digit
abbrev pub with_digits : List (List ℕ) → List (List ℕ)
with_digits [] = []
with_digits (l ∷ ls) = cond (has_digit l) (l ∷ with_digits ls) (with_digits ls)

blank_no_digit : (l : List ℕ) → is_blank l ≡ true → has_digit l ≡ false
blank_no_digit [] h = refl
blank_no_digit (b ∷ l) h =
    let e = each (eqb b comma) (is_blank l ∷ []) h in
    rw (eqb-true b comma e.0, blank_no_digit l e.1.0)

plain_digit : (l : List ℕ) → has_digit (plain l) ≡ has_digit l
plain_digit [] = refl
plain_digit (b ∷ []) = go (eqb b carriage_return) refl
  where
    go : (t : Bool) → eqb b carriage_return ≡ t → has_digit (cond (t && true) [] (b ∷ [])) ≡ (is_digit b || false)
    go true e = rw (eqb-true b carriage_return e)
    go false e = refl
plain_digit (b ∷ c ∷ l) = go (eqb b carriage_return) (plain_digit (c ∷ l))
  where
    go : (t : Bool) → has_digit (plain (c ∷ l)) ≡ has_digit (c ∷ l) → has_digit (cond (t && false) [] (b ∷ plain (c ∷ l))) ≡ (is_digit b || has_digit (c ∷ l))
    go true rec = ap (λ (t : Bool). is_digit b || t) rec
    go false rec = ap (λ (t : Bool). is_digit b || t) rec

unless_digits : (l : List ℕ) (ls : List (List ℕ)) → with_digits (unless_blank l ls) ≡ cond (has_digit l) (l ∷ with_digits ls) (with_digits ls)
unless_digits l (k ∷ ks) = refl
unless_digits l [] = go (is_blank l) refl
  where
    go : (t : Bool) → is_blank l ≡ t → with_digits (cond t [] (l ∷ [])) ≡ cond (has_digit l) (l ∷ []) []
    go true e = rw (blank_no_digit l e)
    go false e = refl

trimmed_digits : (ls : List (List ℕ)) → with_digits (trimmed ls) ≡ with_digits ls
trimmed_digits [] = refl
trimmed_digits (l ∷ ls) = unless_digits l (trimmed ls) ∙ ap (λ (x : List (List ℕ)). cond (has_digit l) (l ∷ x) x) (trimmed_digits ls)

headless_digits : (ls : List (List ℕ)) → with_digits (map plain (headless ls)) ≡ with_digits (map plain ls)
headless_digits [] = refl
headless_digits (l ∷ ls) = go (has_digit l) refl
  where
    go : (t : Bool) → has_digit l ≡ t → with_digits (map plain (cond t (l ∷ ls) ls)) ≡ cond (has_digit (plain l)) (plain l ∷ with_digits (map plain ls)) (with_digits (map plain ls))
    go true e = refl
    go false e = sym (rw (plain_digit l, e))

-- NO LINE WITH A DIGIT IS LEFT OUT: no member is taken for a heading, and no value for a blank line.
pub digits_kept : (text : List ℕ) → with_digits (body_of text) ≡ with_digits (map plain (lines_of (commas (unmarked text))))
digits_kept text = trimmed_digits (map plain (headless (lines_of (commas (unmarked text))))) ∙ headless_digits (lines_of (commas (unmarked text)))
