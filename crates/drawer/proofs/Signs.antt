-- Two numbers with a sign are one exactly where neither is above the other, as the program tests it. Assumes nothing.
use mathlib.Core.Path.{◌≡◌, refl, sym, ◌∙◌, ap}
use mathlib.Core.Bool.{Bool, true, false, ◌&&◌, true≢false}
use native.Mathlib.Decide.{ℕ_discrete}
use lib.Dec.{eqb}
use lib.IntN.{ℤ}
use lib.Signed.{le_z}
use mir.Syntax.{w32}
use mir.Val.{SFits, to_z, of_z}
use mir.ValLaws.{to_z-of_z}
use borrow.Author.Tests.{eq-eqb, ne_eqb}
use Rattle.std.specs.Ordering.{int_eq}
use Rattle.std.proofs.lemmas.Bool.Decides.{Decides-int_eq}
use Rattle.rule.proofs.Equality.{le_z_both, le_z_own}

module _ (a b : ℤ) where
  level : a ≡ b → (le_z a b && le_z b a) ≡ true
  level e = rw (e, le_z_own b) refl

  apart : (a ≡ b → ⊥) → (le_z a b && le_z b a) ≡ false
  apart n = go (le_z a b) (le_z b a) refl refl
    where
      go : (t u : Bool) → le_z a b ≡ t → le_z b a ≡ u → (t && u) ≡ false
      go true true p q = absurd (n (le_z_both a b p q))
      go true false p q = refl
      go false u p q = refl

  -- of two numbers, as `==` tests them
  pub same_int : int_eq a b ≡ (le_z a b && le_z b a)
  same_int = go (int_eq a b) refl
    where
      go : (t : Bool) → int_eq a b ≡ t → int_eq a b ≡ (le_z a b && le_z b a)
      go true e = e ∙ sym (level ((Decides-int_eq a b).0 e))
      go false e = e ∙ sym (apart (λ q. true≢false (sym ((Decides-int_eq a b).1 q) ∙ e)))

  -- of two fields of 32 bits
  pub same_z : SFits w32 a → SFits w32 b → eqb (of_z w32 a) (of_z w32 b) ≡ (le_z a b && le_z b a)
  same_z f g = go (ℕ_discrete (of_z w32 a) (of_z w32 b))
    where
      go : Dec (of_z w32 a ≡ of_z w32 b) → eqb (of_z w32 a) (of_z w32 b) ≡ (le_z a b && le_z b a)
      go (yes e) = eq-eqb _ _ e ∙ sym (level (sym (to_z-of_z w32 a f) ∙ ap (to_z w32) e ∙ to_z-of_z w32 b g))
      go (no n) = ne_eqb _ _ n ∙ sym (apart (λ e. n (ap (of_z w32) e)))

-- three tests, the last two together
pub and_both : (p t u : Bool) → (p && (t && u)) ≡ (p && t && u)
and_both true t u = refl
and_both false t u = refl
