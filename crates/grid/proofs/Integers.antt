-- A number with or without a sign: its cases, what is read of texts, and that no contract leaves a choice. Assumes nothing.
use mathlib.Core.Path.{◌≡◌, refl, ap, sym, ◌∙◌}
use mathlib.Core.Bool.{Bool, true, false}
use mathlib.Core.List.{List, [], ◌∷◌, map}
use Prim.Native.Nat.{ℕ, ◌-◌, ◌<◌}
use native.Mathlib.Omega.{arith}
use lib.IntN.{ℤ, pos, negsuc}
use lib.ListN.{length, get_or, take, drop}
use lib.Seq.{take_all}
use borrow.Author.Tests.{eq-eqb, ne_eqb}
use Rattle.std.specs.Prelude.{Option, Some, None}
use Rattle.grid.specs.Alone.{told_of}
use Rattle.grid.specs.Integer.{minus, with_sign, integer_of}

-- The text

pub text_none : (text : List ℕ) → length text ≡ 0 → None ≡ integer_of text
unfolding integer_of
text_none [] h = refl
text_none (b ∷ bs) h = absurd (omega arith)

below_is : (text : List ℕ) → 0 < length text → get_or text 0 0 ≡ minus → with_sign (told_of (take (length text - 1) (drop 1 text))) true ≡ integer_of text
unfolding integer_of
below_is [] h e = absurd (omega arith)
below_is (b ∷ bs) h e = rw (eq-eqb b minus e) (ap (λ (l : List ℕ). with_sign (told_of l) true) (take_all (length (b ∷ bs) - 1) bs (omega arith)))

above_is : (text : List ℕ) → 0 < length text → (get_or text 0 0 ≡ minus → ⊥) → with_sign (told_of text) false ≡ integer_of text
unfolding integer_of
above_is [] h e = absurd (omega arith)
above_is (b ∷ bs) h e = rw (ne_eqb b minus e)

module _ (text : List ℕ) (t : Option ℕ) (s : Bool) (r : Option ℤ) (is : r ≡ with_sign t s) (some : 0 < length text) where
  pub text_below : s ≡ true → get_or text 0 0 ≡ minus → t ≡ told_of (take (length text - 1) (drop 1 text)) → r ≡ integer_of text
  text_below g e f = is ∙ rw (f, g) (below_is text some e)

  pub text_above : s ≡ false → (get_or text 0 0 ≡ minus → ⊥) → t ≡ told_of text → r ≡ integer_of text
  text_above g e f = is ∙ rw (f, g) (above_is text some e)

-- A text says one number, or none; with a sign too.
pub number_determined : (text : List ℕ) (t u : Option ℕ) → t ≡ told_of text → u ≡ told_of text → t ≡ u
number_determined text t u e f = e ∙ sym f

pub integer_determined : (text : List ℕ) (t u : Option ℤ) → t ≡ integer_of text → u ≡ integer_of text → t ≡ u
integer_determined text t u e f = e ∙ sym f

-- What is read

pub record Case : Type 0 where
  pub text : List ℕ
  pub says : Option ℤ

pub cases : List Case
cases =
    -- "5", "-5", "0", "-0"
    record { text = 53 ∷ []; says = Some (pos 5) }
    ∷ record { text = 45 ∷ 53 ∷ []; says = Some (negsuc 4) }
    ∷ record { text = 48 ∷ []; says = Some (pos 0) }
    ∷ record { text = 45 ∷ 48 ∷ []; says = Some (pos 0) }
    -- "2147483647", "-2147483647", and one more of each
    ∷ record { text = 50 ∷ 49 ∷ 52 ∷ 55 ∷ 52 ∷ 56 ∷ 51 ∷ 54 ∷ 52 ∷ 55 ∷ []; says = Some (pos 2147483647) }
    ∷ record { text = 45 ∷ 50 ∷ 49 ∷ 52 ∷ 55 ∷ 52 ∷ 56 ∷ 51 ∷ 54 ∷ 52 ∷ 55 ∷ []; says = Some (negsuc 2147483646) }
    ∷ record { text = 50 ∷ 49 ∷ 52 ∷ 55 ∷ 52 ∷ 56 ∷ 51 ∷ 54 ∷ 52 ∷ 56 ∷ []; says = None }
    ∷ record { text = 45 ∷ 50 ∷ 49 ∷ 52 ∷ 55 ∷ 52 ∷ 56 ∷ 51 ∷ 54 ∷ 52 ∷ 56 ∷ []; says = None }
    -- nothing, "-", "--1", "+1", "- 1", " -1", "-1x", "1-", "5" with a carriage return
    ∷ record { text = []; says = None }
    ∷ record { text = 45 ∷ []; says = None }
    ∷ record { text = 45 ∷ 45 ∷ 49 ∷ []; says = None }
    ∷ record { text = 43 ∷ 49 ∷ []; says = None }
    ∷ record { text = 45 ∷ 32 ∷ 49 ∷ []; says = None }
    ∷ record { text = 32 ∷ 45 ∷ 49 ∷ []; says = None }
    ∷ record { text = 45 ∷ 49 ∷ 120 ∷ []; says = None }
    ∷ record { text = 49 ∷ 45 ∷ []; says = None }
    ∷ record { text = 53 ∷ 13 ∷ []; says = None }
    ∷ []

-- Each text says what the table has.
pub integers_read : map (λ c. integer_of c.text) cases ≡ map (λ c. c.says) cases
unfolding cases integer_of with_sign told_of
integers_read = refl

-- "42"; nothing; "1,2"; and a number past every limit.
pub number_read : told_of (52 ∷ 50 ∷ []) ≡ Some 42
unfolding told_of
number_read = refl

pub nothing_read : told_of [] ≡ None
unfolding told_of
nothing_read = refl

pub two_read : told_of (49 ∷ 44 ∷ 50 ∷ []) ≡ None
unfolding told_of
two_read = refl

pub large_read : told_of (57 ∷ 57 ∷ 57 ∷ 57 ∷ 57 ∷ 57 ∷ 57 ∷ 57 ∷ 57 ∷ 57 ∷ 57 ∷ 57 ∷ 57 ∷ 57 ∷ []) ≡ Some 1000000000000
unfolding told_of
large_read = refl
