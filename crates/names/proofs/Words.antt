-- Words of a text, and texts that are the same. Assumes nothing.
use mathlib.Core.Path.{◌≡◌, refl, sym, ◌∙◌, ap, ap₂}
use mathlib.Core.Bool.{Bool, true, false, cond, ◌&&◌, true≢false}
use mathlib.Core.List.{List, [], ◌∷◌}
use mathlib.Core.Logic.{◌↔◌}
use Prim.Native.Nat.{ℕ, zero, suc, ◌+◌, ◌-◌, ◌≤◌, ◌<◌}
use native.Mathlib.Numerals.{add-one}
use native.Mathlib.Decide.{ℕ_discrete}
use native.Mathlib.Omega.{arith}
use lib.Dec.{eqb}
use lib.Pointwise.{pointwise}
use lib.ListN.{length, get_or, take, drop, length-drop}
use lib.Seq.{drop-cons, drop-length, take_all}
use borrow.Author.Tests.{eq-eqb, ne_eqb, eqb-true}
use Rattle.le.proofs.Tests.{each}
use Rattle.clock.specs.Clock.{before, behind}
use Rattle.clock.proofs.Parts.{behind_here, behind_on}
use Rattle.std.specs.Prelude.{Option, Some, None}
use Rattle.names.specs.Names.{blank, skip, word_at, same, place_from}
use Rattle.names.specs.Inner.{stepped}

-- Passing over words

pub skip_none : (n : ℕ) → skip [] n ≡ []
unfolding skip behind
skip_none zero = refl
skip_none (suc n) = skip_none n

pub skip_zero : (words : List ℕ) → skip words 0 ≡ words
unfolding skip
skip_zero words = refl

-- one byte more
step_skip : (left b : ℕ) (bs : List ℕ) → (left ≡ 0 → ⊥) → skip (b ∷ bs) left ≡ skip bs (stepped left b)
unfolding skip
step_skip zero b bs h = absurd (h refl)
step_skip (suc left) b bs h = go (ℕ_discrete b blank)
  where
    go : Dec (b ≡ blank) → skip (behind blank (b ∷ bs)) left ≡ skip bs (stepped (suc left) b)
    go (yes e) =
        let one : suc left - 1 ≡ left = omega arith in
        ap (λ (t : List ℕ). skip t left) (behind_here blank b bs e) ∙ sym (ap (λ (t : Bool). skip bs (cond t (suc left - 1) (suc left))) (eq-eqb b blank e) ∙ ap (λ (k : ℕ). skip bs k) one)
    go (no e) = ap (λ (t : List ℕ). skip t left) (behind_on blank b bs e) ∙ sym (ap (λ (t : Bool). skip bs (cond t (suc left - 1) (suc left))) (ne_eqb b blank e))

module _ (words : List ℕ) (left i n : ℕ) (is : skip (drop i words) left ≡ skip words n) where
  pub skip_on : (r : ℕ) → i < length words → (left ≡ 0 → ⊥) → r ≡ stepped left (get_or words i 0) → skip (drop (i + 1) words) r ≡ skip words n
  skip_on r h l e =
      rw add-one (ap (λ (k : ℕ). skip (drop (suc i) words) k) e ∙ sym (step_skip left (get_or words i 0) (drop (suc i) words) l) ∙ ap (λ (t : List ℕ). skip t left) (sym (drop-cons words i 0 h)) ∙ is)

  pub skip_done : left ≡ 0 → drop i words ≡ skip words n
  skip_done e = sym (skip_zero (drop i words)) ∙ ap (λ (k : ℕ). skip (drop i words) k) (sym e) ∙ is

  pub skip_end : i ≡ length words → drop (length words) words ≡ skip words n
  skip_end e =
      let end : drop i words ≡ [] = ap (λ (k : ℕ). drop k words) e ∙ drop-length words in
      drop-length words ∙ sym (skip_none left) ∙ ap (λ (t : List ℕ). skip t left) (sym end) ∙ is

-- the word there, as the code cuts it
pub word_there : (words : List ℕ) (n at : ℕ) (p r : List ℕ) → drop at words ≡ skip words n → p ≡ take (length words - at) (drop at words) → r ≡ before blank p → r ≡ word_at words n
unfolding word_at
word_there words n at p r e f g = g ∙ ap (before blank) (f ∙ take_all (length words - at) (drop at words) (omega (arith, length-drop at words)) ∙ e)

-- Texts that are the same

-- as the slices' `==` tells it
pub same_is : (text name : List ℕ) → pointwise eqb text name ≡ same text name
unfolding same
same_is [] [] = refl
same_is [] (y ∷ ys) = refl
same_is (x ∷ xs) [] = refl
same_is (x ∷ xs) (y ∷ ys) = ap (λ (t : Bool). eqb x y && t) (same_is xs ys)

-- the same exactly where they are equal
equal : (text name : List ℕ) → same text name ≡ true → text ≡ name
unfolding same
equal [] [] h = refl
equal [] (y ∷ ys) h = absurd (true≢false (sym h))
equal (x ∷ xs) [] h = absurd (true≢false (sym h))
equal (x ∷ xs) (y ∷ ys) h =
    let p = each (eqb x y) (same xs ys ∷ []) h in
    ap₂ (λ (a : ℕ) (l : List ℕ). a ∷ l) (eqb-true x y p.0) (equal xs ys p.1.0)

with_itself : (name : List ℕ) → same name name ≡ true
unfolding same
with_itself [] = refl
with_itself (y ∷ ys) = rw (eq-eqb y y refl) (with_itself ys)

pub same_exactly : (text name : List ℕ) → (same text name ≡ true) ↔ (text ≡ name)
same_exactly text name = (equal text name, λ e. ap (λ (t : List ℕ). same t name) e ∙ with_itself name)

-- The place of a word

-- the search's turns, of words 1 to `most`
module _ (words text : List ℕ) (most n : ℕ) (r : Option ℕ) (is : place_from words (most + 1 - n) n text ≡ r) where
  left : n ≤ most → most + 1 - n ≡ suc (most - n)
  left h = omega arith

  pub place_here : n ≤ most → (t : Bool) → t ≡ same text (word_at words n) → t ≡ true → Some n ≡ r
  unfolding place_from
  place_here h t e f = sym (ap (λ (k : ℕ). place_from words k n text) (left h) ∙ rw (sym e ∙ f)) ∙ is

  pub place_on : n ≤ most → (t : Bool) → t ≡ same text (word_at words n) → t ≡ false → place_from words (most + 1 - (n + 1)) (n + 1) text ≡ r
  unfolding place_from
  place_on h t e f =
      let fewer : most + 1 - (n + 1) ≡ most - n = omega arith in
      ap (λ (k : ℕ). place_from words k (n + 1) text) fewer ∙ ap (λ (k : ℕ). place_from words (most - n) k text) (add-one n)
      ∙ sym (ap (λ (k : ℕ). place_from words k n text) (left h) ∙ rw (sym e ∙ f)) ∙ is

  pub no_place : most < n → None ≡ r
  unfolding place_from
  no_place h =
      let none : most + 1 - n ≡ 0 = omega arith in
      sym (ap (λ (k : ℕ). place_from words k n text) none) ∙ is
