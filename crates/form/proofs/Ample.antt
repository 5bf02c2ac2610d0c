-- Room for whatever form of so many bytes. Assumes nothing.
use mathlib.Core.Path.{◌≡◌}
use mathlib.Core.Bool.{Bool, true, false, cond, ◌||◌}
use mathlib.Core.List.{List, [], ◌∷◌}
use native.Mathlib.Nat.{suc-mul}
use Prim.Native.Nat.{ℕ, suc, ◌+◌, ◌*◌, ◌≤◌}
use native.Mathlib.Omega.{arith}
use lib.Dec.{eqb}
use lib.ListN.{length}
use Rattle.form.specs.Form.{is_sign, next_marked, most_word_shown, most_shown, most_byte, most_from, most_with}

pub never : {A : Type 0} → false ≡ true → A
never h = absurd (let e : ◌≡◌ {A = Bool} false true = h in let z : ◌≡◌ {A = ℕ} 0 1 = cc in omega arith)

module _ (a b : ℕ) where
  either : (x : Bool) (m : ℕ) {n : ℕ} → m ≤ 42 + a + b → n ≤ 42 + a + b → cond x m n ≤ 42 + a + b
  either true m f g = f
  either false m f g = g

  -- a mark shows at most two such parts
  word_most : (c : ℕ) → most_word_shown c ≤ 42 + a + b
  unfolding most_word_shown
  word_most c =
      either (eqb c 118) 16 (omega arith) (either (eqb c 107) 16 (omega arith) (either (eqb c 109) 16 (omega arith)
      (either (eqb c 100) 26 (omega arith) (either (eqb c 116) 5 (omega arith) (either (eqb c 108) 42 (omega arith) (omega arith))))))

  mark_most : (c : ℕ) → most_shown a b c ≤ 42 + a + b
  unfolding most_shown
  mark_most c =
      either (eqb c 49) a (omega arith) (either (eqb c 50) b (omega arith) (either (eqb c 110) 20 (omega arith) (either (eqb c 105) 20 (omega arith)
      (either (eqb c 121) 23 (omega arith) (either (eqb c 115) 24 (omega arith) (either (eqb c 112) 26 (omega arith) (word_most c)))))))

  sign_most : (x : Bool) → cond x 0 1 ≤ 1
  sign_most true = omega arith
  sign_most false = omega arith

  -- a byte that is no letter of a mark: it shows a byte, or it is the `%` of one
  byte_most : (p q r s : Bool) (l : List ℕ) → ((marked : Bool) → most_from a b marked l ≤ length l * (21 + a + b) + cond marked (21 + a + b) 0)
      → cond (p || q || r || s) 0 1 + most_from a b p l ≤ suc (length l) * (21 + a + b) + 0
  byte_most true q r s l h = omega (arith, h true, suc-mul (length l) (21 + a + b))
  byte_most false q r s l h = omega (arith, h false, suc-mul (length l) (21 + a + b), sign_most (false || q || r || s))

  -- each byte stands for one such part, and the letter of a mark for one more
  ample_from : (l : List ℕ) (marked : Bool) → most_from a b marked l ≤ length l * (21 + a + b) + cond marked (21 + a + b) 0
  unfolding most_from most_byte next_marked is_sign
  ample_from [] marked = omega arith
  ample_from (c ∷ l) true = omega (arith, mark_most c, ample_from l false, suc-mul (length l) (21 + a + b))
  ample_from (c ∷ l) false = byte_most (eqb c 37) (eqb c 91) (eqb c 124) (eqb c 93) l (ample_from l)

  -- a form has room where each of its bytes has 21, and room for both texts
  pub ample : (form : List ℕ) → most_with form a b ≤ length form * (21 + a + b)
  ample form = omega (arith, ample_from form false)
