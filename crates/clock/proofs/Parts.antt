-- Texts in parts: what stands before and behind a byte, and the number that digits say. Assumes nothing.
use mathlib.Core.Path.{◌≡◌, refl, sym, ◌∙◌, ap}
use mathlib.Core.Bool.{Bool, true, false, cond, ◌||◌}
use mathlib.Core.List.{List, [], ◌∷◌}
use Prim.Native.Nat.{ℕ, suc, ◌+◌, ◌-◌, ◌≤◌, ◌<◌}
use native.Mathlib.Numerals.{add-one}
use native.Mathlib.Decide.{ℕ_discrete}
use native.Mathlib.Omega.{arith}
use lib.Dec.{eqb, ltb}
use Rattle.std.specs.Prelude.{Option, Some, None}
use Rattle.std.specs.List.{list_any, position, position_or_len}
use Rattle.std.proofs.lemmas.List.Recursion.{is_position_or_len}
use lib.ListN.{length, get_or, take, drop, length-drop}
use lib.Seq.{drop-cons, drop-length, take_all}
use borrow.Author.Tests.{eq-eqb, ne_eqb, ltb-true, ltb-false}
use Rattle.row.specs.Numbers.{is_digit, digits, not_empty, value, hold, ceiling}
use Rattle.clock.specs.Clock.{has, before, behind, number_in}

-- The first such byte

found : (mark b : ℕ) (bs : List ℕ) → b ≡ mark → length (before mark (b ∷ bs)) ≡ 0
unfolding before
found mark b bs e = rw (eq-eqb b mark e)

passed : (mark b : ℕ) (bs : List ℕ) → (b ≡ mark → ⊥) → length (before mark (b ∷ bs)) ≡ suc (length (before mark bs))
unfolding before
passed mark b bs e = rw (ne_eqb b mark e)

-- a text that begins with such a byte, and one that does not
module _ (mark b : ℕ) (bs : List ℕ) where
  pub before_here : b ≡ mark → before mark (b ∷ bs) ≡ []
  unfolding before
  before_here e = rw (eq-eqb b mark e)

  pub before_on : (b ≡ mark → ⊥) → before mark (b ∷ bs) ≡ b ∷ before mark bs
  unfolding before
  before_on e = rw (ne_eqb b mark e)

  pub behind_here : b ≡ mark → behind mark (b ∷ bs) ≡ bs
  unfolding behind
  behind_here e = rw (eq-eqb b mark e)

  pub behind_on : (b ≡ mark → ⊥) → behind mark (b ∷ bs) ≡ behind mark bs
  unfolding behind
  behind_on e = rw (ne_eqb b mark e)

  pub has_here : b ≡ mark → has mark (b ∷ bs) ≡ true
  unfolding has
  has_here e = rw (eq-eqb b mark e)

  pub has_on : (b ≡ mark → ⊥) → has mark (b ∷ bs) ≡ has mark bs
  unfolding has
  has_on e = rw (ne_eqb b mark e)

-- what is cut there
take_before : (mark : ℕ) (text : List ℕ) → take (length (before mark text)) text ≡ before mark text
unfolding before
take_before mark [] = refl
take_before mark (b ∷ bs) = go (ℕ_discrete b mark) (take_before mark bs)
  where
    go : Dec (b ≡ mark) → take (length (before mark bs)) bs ≡ before mark bs → take (length (before mark (b ∷ bs))) (b ∷ bs) ≡ before mark (b ∷ bs)
    go (yes e) h = ap (λ (l : List ℕ). take (length l) (b ∷ bs)) (before_here mark b bs e) ∙ sym (before_here mark b bs e)
    go (no e) h = ap (λ (l : List ℕ). take (length l) (b ∷ bs)) (before_on mark b bs e) ∙ ap (λ (l : List ℕ). b ∷ l) h ∙ sym (before_on mark b bs e)

before_within : (mark : ℕ) (text : List ℕ) → length (before mark text) ≤ length text
unfolding before
before_within mark [] = omega arith
before_within mark (b ∷ bs) = go (ℕ_discrete b mark) (before_within mark bs)
  where
    go : Dec (b ≡ mark) → length (before mark bs) ≤ length bs → length (before mark (b ∷ bs)) ≤ length (b ∷ bs)
    go (yes e) h = omega (arith, found mark b bs e)
    go (no e) h = omega (arith, passed mark b bs e)

pub has_is : (mark : ℕ) (text : List ℕ) → list_any (λ b. eqb b mark) text ≡ has mark text
unfolding has
has_is mark [] = refl
has_is mark (b ∷ bs) = ap (λ (t : Bool). eqb b mark || t) (has_is mark bs)

-- the first place that has the byte, or the text's length
first_place : (mark : ℕ) (text : List ℕ) → length (before mark text) ≡ position_or_len (λ b. eqb b mark) text
unfolding before
first_place mark text = is_position_or_len (λ l. length (before mark l)) (λ b. eqb b mark) refl (λ x xs. one x xs (eqb x mark)) text
  where
    one : (x : ℕ) (xs : List ℕ) (t : Bool) → length (cond t [] (x ∷ before mark xs)) ≡ cond t 0 (1 + length (before mark xs))
    one x xs true = refl
    one x xs false = omega arith

-- there is such a place, or none
some_place : (mark : ℕ) (text : List ℕ) (n : ℕ) → Some n ≡ position (λ b. eqb b mark) text → (n ≡ length (before mark text)) × (n < length text)
some_place mark text n h = go (ltb place (length text)) refl h
  where
    place : ℕ
    place = position_or_len (λ b. eqb b mark) text

    go : (t : Bool) → ltb place (length text) ≡ t → Some n ≡ cond t (Some place) None → (n ≡ length (before mark text)) × (n < length text)
    go true e f = let is : n ≡ place = cc in (is ∙ sym (first_place mark text), omega (arith, is, ltb-true place (length text) e))
    go false e f = absurd (cc)

no_place : (mark : ℕ) (text : List ℕ) → None ≡ position (λ b. eqb b mark) text → length (before mark text) ≡ length text
no_place mark text h = go (ltb place (length text)) refl h
  where
    place : ℕ
    place = position_or_len (λ b. eqb b mark) text

    go : (t : Bool) → ltb place (length text) ≡ t → ◌≡◌ {A = Option ℕ} None (cond t (Some place) None) → length (before mark text) ≡ length text
    go true e f = absurd (cc)
    go false e f = omega (arith, first_place mark text, before_within mark text, ltb-false place (length text) e)

drop_next : (mark : ℕ) (text : List ℕ) → length (before mark text) < length text → drop (suc (length (before mark text))) text ≡ behind mark text
drop_next mark [] h = absurd (omega arith)
drop_next mark (b ∷ bs) h = go (ℕ_discrete b mark) (λ g. drop_next mark bs g)
  where
    go : Dec (b ≡ mark) → (length (before mark bs) < length bs → drop (suc (length (before mark bs))) bs ≡ behind mark bs) → drop (suc (length (before mark (b ∷ bs)))) (b ∷ bs) ≡ behind mark (b ∷ bs)
    go (yes e) r = ap (λ (n : ℕ). drop (suc n) (b ∷ bs)) (found mark b bs e) ∙ sym (behind_here mark b bs e)
    go (no e) r = ap (λ (n : ℕ). drop (suc n) (b ∷ bs)) (passed mark b bs e) ∙ r (omega (arith, passed mark b bs e)) ∙ sym (behind_on mark b bs e)

drop_behind : (mark : ℕ) (text : List ℕ) → length (before mark text) < length text → drop (length (before mark text) + 1) text ≡ behind mark text
drop_behind mark text h = rw add-one (drop_next mark text h)

no_behind : (mark : ℕ) (text : List ℕ) → length (before mark text) ≡ length text → [] ≡ behind mark text
unfolding behind
no_behind mark [] h = refl
no_behind mark (b ∷ bs) h = go (ℕ_discrete b mark) (λ g. no_behind mark bs g)
  where
    go : Dec (b ≡ mark) → (length (before mark bs) ≡ length bs → [] ≡ behind mark bs) → [] ≡ behind mark (b ∷ bs)
    go (yes e) r = absurd (omega (arith, found mark b bs e))
    go (no e) r = r (omega (arith, passed mark b bs e)) ∙ sym (behind_on mark b bs e)

-- the parts, as the code cuts them
module _ (mark : ℕ) (text : List ℕ) (n : ℕ) (is : Some n ≡ position (λ b. eqb b mark) text) where
  pub cut_before : take n text ≡ before mark text
  cut_before = ap (λ (k : ℕ). take k text) (some_place mark text n is).0 ∙ take_before mark text

  pub cut_behind : take (length text - (n + 1)) (drop (n + 1) text) ≡ behind mark text
  cut_behind =
      let p = some_place mark text n is in
      take_all (length text - (n + 1)) (drop (n + 1) text) (omega (arith, length-drop (n + 1) text)) ∙ ap (λ (k : ℕ). drop (k + 1) text) p.0 ∙ drop_behind mark text (omega arith)

module _ (mark : ℕ) (text : List ℕ) (is : None ≡ position (λ b. eqb b mark) text) where
  pub all_before : text ≡ before mark text
  all_before = sym (ap (λ (k : ℕ). take k text) (no_place mark text is) ∙ take_all (length text) text (omega arith)) ∙ take_before mark text

  pub none_behind : [] ≡ behind mark text
  none_behind = no_behind mark text (no_place mark text is)

-- Numbers

-- the digits' turns
module _ (text : List ℕ) (v i : ℕ) where
  -- a byte that is no digit
  pub bad_digit : i < length text → is_digit (get_or text i 0) ≡ false → digits text ≡ digits (drop i text) → ceiling ≡ number_in text
  unfolding number_in
  bad_digit h e d =
      let no : digits text ≡ false = d ∙ ap (λ (l : List ℕ). digits l) (drop-cons text i 0 h) ∙ rw e in
      rw no

  -- the last
  pub all_digits : (r : ℕ) → 0 < length text → i ≡ length text → digits text ≡ digits (drop i text) → hold (value v (drop i text)) ≡ hold (value 0 text) → r ≡ hold v → r ≡ number_in text
  unfolding number_in
  all_digits r s e d g k =
      let end : drop i text ≡ [] = ap (λ (n : ℕ). drop n text) e ∙ drop-length text in
      let yes : digits text ≡ true = d ∙ ap (λ (l : List ℕ). digits l) end in
      rw (yes, some text s) (k ∙ ap (λ (l : List ℕ). hold (value v l)) (sym end) ∙ g)
    where
      some : (t : List ℕ) → 0 < length t → not_empty t ≡ true
      some [] h = absurd (omega arith)
      some (b ∷ bs) h = refl

pub no_digits : (text : List ℕ) → length text ≡ 0 → ceiling ≡ number_in text
unfolding number_in
no_digits [] e = refl
no_digits (b ∷ bs) e = absurd (omega arith)
