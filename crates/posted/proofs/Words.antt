-- A word at the front of a text. Assumes nothing.
use mathlib.Core.Path.{◌≡◌, refl, sym, ◌∙◌, ap}
use mathlib.Core.Bool.{Bool, true, false}
use mathlib.Core.List.{List, [], ◌∷◌, ◌++◌}
use mathlib.Core.Logic.{◌≢◌}
use lib.Dec.{eqb}
use lib.ListN.{length, take, drop}
use denote.Ref.{Bor}
use Rattle.std.proofs.Common.{Option}
use Rattle.std.specs.Option.{MatchOption}
use Rattle.std.specs.Cmp.Lexicographic.{pointwise}
use Rattle.std.proofs.lemmas.Slice.Eq.{strip_prefix_is}
use Prim.Native.Nat.{ℕ, suc, ◌+◌}
use borrow.Author.Tests.{eqb-true, eq-eqb}
use native.Mathlib.Omega.{arith}

pub never : {A : Type 0} (b : Bool) → b ≡ true → b ≡ false → A
never b e f = absurd (let z : ◌≡◌ {A = Bool} true false = sym e ∙ f in let y : ◌≡◌ {A = ℕ} 0 1 = cc in omega arith)

-- whether a text is empty, by its length
pub nothing_left : (xs : List ℕ) → true ≡ eqb (length xs) 0 → xs ≡ []
nothing_left [] e = refl
nothing_left (x ∷ xs) e = absurd (let z : suc (length xs) ≡ 0 = eqb-true (suc (length xs)) 0 (sym e) in omega arith)

pub something_left : (xs : List ℕ) → false ≡ eqb (length xs) 0 → xs ≢ []
something_left xs e f = never (eqb (length xs) 0) (ap (λ (ys : List ℕ). eqb (length ys) 0) f) (sym e)

-- what is behind a word, as the library finds it
pub word_after : (s p : List ℕ) (r : Option (Bor (List ℕ)))
    → MatchOption r (pointwise eqb (take (length p) s) p ≡ false) (λ x. (pointwise eqb (take (length p) s) p ≡ true) × (x.now ≡ drop (length p) s) × (length x.now + length p ≡ length s))
    → MatchOption r ((rest : List ℕ) → s ≢ p ++ rest) (λ x. s ≡ p ++ x.now)
word_after = strip_prefix_is (λ x y. (eqb-true x y, eq-eqb x y))
