-- Where a text's rows begin: its first line has a digit, or it is a heading. Assumes nothing.
use Rattle.std.proofs.Common.{◌≡◌, ℕ, ◌+◌, ◌<◌, ◌≤◌, Bool, true, false, cond, ◌&&◌, ◌||◌, eqb, List, [], ◌∷◌, ◌++◌, map, length, get_or, drop, sym, refl, ap, ◌∙◌, arith, drop_of_length-le}
use Rattle.std.proofs.Common.{eq-eqb, ne_eqb}
use native.Mathlib.Decide.{ℕ_discrete}
use Rattle.le.proofs.Tests.{holds_or_fails}
use Rattle.row.specs.Numbers.{line_feed, onto, lines_of, is_digit}
use Rattle.row.proofs.Left.{next_byte}
use Rattle.grid.specs.Grid.{mark, begins_with, unmarked, is_separator, separator_of, as_comma, commas, has_digit}
use Rattle.grid.proofs.Texts.{separator_is, stays}
use Rattle.std.specs.Prelude.{Some, None, unwrap_or}
use Rattle.faults.specs.Faults.{first_in, first_line}
use Rattle.faults.specs.Inner.{first_row}

-- a digit stands before the first line feed
abbrev pub digit_first : List ℕ → Bool
digit_first [] = false
digit_first (b ∷ bs) = cond (eqb b line_feed) false (is_digit b || digit_first bs)

onto_first : (b : ℕ) (ls : List (List ℕ)) → first_in (onto b ls) ≡ b ∷ first_in ls
onto_first b [] = refl
onto_first b (l ∷ ls) = refl

lines_first : (text : List ℕ) → has_digit (first_in (lines_of text)) ≡ digit_first text
lines_first [] = refl
lines_first (b ∷ bs) = go (eqb b line_feed) (lines_first bs)
  where
    go : (t : Bool) → has_digit (first_in (lines_of bs)) ≡ digit_first bs → has_digit (first_in (cond t ([] ∷ lines_of bs) (onto b (lines_of bs)))) ≡ cond t false (is_digit b || digit_first bs)
    go true h = refl
    go false h = ap has_digit (onto_first b (lines_of bs)) ∙ ap (λ (t : Bool). is_digit b || t) h

-- a separator is no digit and no line feed, whatever it is read as
record Parts (s b : ℕ) : Type 0 where
  feed : eqb (as_comma s b) line_feed ≡ eqb b line_feed
  digit : is_digit (as_comma s b) ≡ is_digit b

three : (P : ℕ → Type 0) → P 44 → P 59 → P 9 → (b : ℕ) → is_separator b ≡ true → P b
three P x y z b h = go (ℕ_discrete b 44) (ℕ_discrete b 59) (ℕ_discrete b 9)
  where
    go : Dec (b ≡ 44) → Dec (b ≡ 59) → Dec (b ≡ 9) → P b
    go (yes e) d f = rw e x
    go (no n) (yes e) f = rw e y
    go (no n) (no m) (yes e) = rw e z
    go (no n) (no m) (no k) = absurd (holds_or_fails h (rw (ne_eqb b 44 n, ne_eqb b 59 m, ne_eqb b 9 k)))

parts_same : (s b : ℕ) → is_separator s ≡ true → Parts s b
parts_same s b y = go (is_separator b) refl
  where
    one : (c : ℕ) (t : Bool) → eqb c s ≡ t → (eqb c line_feed ≡ false) × (is_digit c ≡ false) → (eqb (cond t 44 (cond (eqb c 44) 59 c)) line_feed ≡ false) × (is_digit (cond t 44 (cond
        (eqb c 44) 59 c)) ≡ false)
    one c true e h = (refl, refl)
    one c false e h = two (eqb c 44)
      where
        two : (u : Bool) → (eqb (cond u 59 c) line_feed ≡ false) × (is_digit (cond u 59 c) ≡ false)
        two true = (refl, refl)
        two false = h

    plain : (c : ℕ) → is_separator c ≡ true → (eqb c line_feed ≡ false) × (is_digit c ≡ false)
    plain c h = three (λ x. (eqb x line_feed ≡ false) × (is_digit x ≡ false)) (refl, refl) (refl, refl) (refl, refl) c h

    go : (t : Bool) → is_separator b ≡ t → Parts s b
    go true e = let p = plain b e in
        let q = one b (eqb b s) refl p in
        record { feed = q.0 ∙ sym p.0; digit = q.1 ∙ sym p.1 }
    go false e = record { feed = ap (λ (x : ℕ). eqb x line_feed) (stays b s e y); digit = ap is_digit (stays b s e y) }

commas_first : (s : ℕ) → is_separator s ≡ true → (text : List ℕ) → digit_first (map (as_comma s) text) ≡ digit_first text
commas_first s y [] = refl
commas_first s y (b ∷ bs) = let p = parts_same s b y in λ i. cond (p.feed i) false (p.digit i || commas_first s y bs i)

mark_first : (text : List ℕ) → digit_first (unmarked text) ≡ digit_first text
mark_first text = go text (begins_with mark text) refl
  where
    three-bytes : (a b c : ℕ) (bs : List ℕ) → (eqb a 239 && (eqb b 187 && (eqb c 191 && true))) ≡ true → digit_first bs ≡ digit_first (a ∷ b ∷ c ∷ bs)
    three-bytes a b c bs h = at (ℕ_discrete a 239) (ℕ_discrete b 187) (ℕ_discrete c 191)
      where
        at : Dec (a ≡ 239) → Dec (b ≡ 187) → Dec (c ≡ 191) → digit_first bs ≡ digit_first (a ∷ b ∷ c ∷ bs)
        at (yes e) (yes f) (yes g) = λ i. digit_first (sym e i ∷ sym f i ∷ sym g i ∷ bs)
        at (no n) f g = absurd (holds_or_fails h (rw (ne_eqb a 239 n)))
        at (yes e) (no n) g = absurd (holds_or_fails h (rw (eq-eqb a 239 e, ne_eqb b 187 n)))
        at (yes e) (yes f) (no n) = absurd (holds_or_fails h (rw (eq-eqb a 239 e, eq-eqb b 187 f, ne_eqb c 191 n)))

    short : {t : Bool} → t ≡ true → t ≡ false → ⊥
    short h f = holds_or_fails h f

    and_false : (t : Bool) → (t && false) ≡ false
    and_false true = refl
    and_false false = refl

    go : (text : List ℕ) (t : Bool) → begins_with mark text ≡ t → digit_first (cond t (drop 3 text) text) ≡ digit_first text
    go text false h = refl
    go [] true h = refl
    go (a ∷ []) true h = absurd (short h (and_false (eqb a 239)))
    go (a ∷ b ∷ []) true h = absurd (short h (ap (λ (t : Bool). eqb a 239 && t) (and_false (eqb b 187)) ∙ and_false (eqb a 239)))
    go (a ∷ b ∷ c ∷ bs) true h = three-bytes a b c bs h

pub first_is : (text : List ℕ) → first_line text ≡ cond (digit_first text) 1 2
unfolding first_line
first_is text = ap (λ (t : Bool). cond t 1 2)
    (lines_first (commas (unmarked text)) ∙ commas_first (separator_of (unmarked text)) (separator_is (unmarked text)) (unmarked text) ∙ mark_first text)

-- as its bytes tell it
row_first : (text : List ℕ) → unwrap_or (first_row text) 2 ≡ cond (digit_first text) 1 2
unfolding first_row
row_first [] = refl
row_first (b ∷ bs) = go (eqb b line_feed) (is_digit b) (row_first bs)
  where
    go : (t u : Bool) → unwrap_or (first_row bs) 2 ≡ cond (digit_first bs) 1 2 → unwrap_or (cond t (Some 2) (cond u (Some 1) (first_row bs))) 2 ≡ cond (cond t false (u || digit_first bs)) 1 2
    go true u h = refl
    go false true h = refl
    go false false h = h

pub row_is : (text : List ℕ) → unwrap_or (first_row text) 2 ≡ first_line text
row_is text = row_first text ∙ sym (first_is text)

-- and as the bytes of a part tell it, with those behind
pub row_parts : (bytes rest : List ℕ) → unwrap_or (first_row bytes) (first_line rest) ≡ first_line (bytes ++ rest)
unfolding first_row
row_parts bytes rest = ap (unwrap_or (first_row bytes)) (first_is rest) ∙ parts bytes ∙ sym (first_is (bytes ++ rest))
  where
    parts : (bytes : List ℕ) → unwrap_or (first_row bytes) (cond (digit_first rest) 1 2) ≡ cond (digit_first (bytes ++ rest)) 1 2
    parts [] = refl
    parts (b ∷ bs) = go (eqb b line_feed) (is_digit b) (parts bs)
      where
        go : (t u : Bool) → unwrap_or (first_row bs) (cond (digit_first rest) 1 2) ≡ cond (digit_first (bs ++ rest)) 1 2
            → unwrap_or (cond t (Some 2) (cond u (Some 1) (first_row bs))) (cond (digit_first rest) 1 2) ≡ cond (cond t false (u || digit_first (bs ++ rest))) 1 2
        go true u h = refl
        go false true h = refl
        go false false h = h

-- a byte more
module _ (text : List ℕ) (i : ℕ) (so : first_row (drop i text) ≡ first_row text) (h : i < length text) where
  here : first_row text ≡ cond (eqb (get_or text i 0) line_feed) (Some 2) (cond (is_digit (get_or text i 0)) (Some 1) (first_row (drop (i + 1) text)))
  unfolding first_row
  here = sym so ∙ ap (λ (bs : List ℕ). first_row bs) (next_byte text i h)

  pub at_feed : get_or text i 0 ≡ 10 → Some 2 ≡ first_row text
  at_feed e = sym (here ∙ rw (eq-eqb (get_or text i 0) 10 e))

  pub at_digit : (get_or text i 0 ≡ 10 → ⊥) → is_digit (get_or text i 0) ≡ true → Some 1 ≡ first_row text
  at_digit n d = sym (here ∙ rw (ne_eqb (get_or text i 0) 10 n, d))

  pub at_other : (get_or text i 0 ≡ 10 → ⊥) → is_digit (get_or text i 0) ≡ false → first_row (drop (i + 1) text) ≡ first_row text
  at_other n d = sym (here ∙ rw (ne_eqb (get_or text i 0) 10 n, d))

pub at_end : (text : List ℕ) (i : ℕ) → first_row (drop i text) ≡ first_row text → length text ≤ i → None ≡ first_row text
unfolding first_row
at_end text i so h = sym (ap (λ (bs : List ℕ). first_row bs) (drop_of_length-le text h)) ∙ so

-- it is the first or the second
pub first_small : (text : List ℕ) → first_line text ≤ 2
first_small text = rw (first_is text) (go (digit_first text))
  where
    go : (t : Bool) → cond t 1 2 ≤ 2
    go true = omega arith
    go false = omega arith
