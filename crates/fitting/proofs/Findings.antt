-- Findings one after another, and amounts that are the same. Assumes nothing.
use mathlib.Core.Path.{◌≡◌, refl, sym, ap, ◌∙◌}
use mathlib.Core.Bool.{Bool, true, false, cond, true≢false}
use native.Mathlib.Decide.{ℕ_discrete}
use borrow.Author.Tests.{eq-eqb, ne_eqb, eqb-true}
use lib.Dec.{eqb}
use lib.IntN.{ℤ, pos, negsuc}
use mir.Syntax.{Width}
use mir.Val.{SFits, to_z, of_z}
use mir.ValLaws.{to_z-of_z}
use Rattle.fitting.specs.declared.Finding.{Finding}
use Rattle.std.specs.Prelude.{Ok, Err}
use Rattle.fitting.specs.Fitting.{Judged, Fits, is_fits, or_else, same_fen}

pub or_fits : (f g : Judged) → is_fits f ≡ true → or_else f g ≡ g
unfolding or_else
or_fits f g e = rw e

pub or_not : (f g : Judged) → is_fits f ≡ false → or_else f g ≡ f
unfolding or_else
or_not f g e = rw e

pub fits_is : (f : Judged) → is_fits f ≡ true → f ≡ Fits
unfolding is_fits
fits_is (Ok u) e = refl
fits_is (Err f) e = absurd (true≢false (sym e))

-- a finding does not fit
pub not_fits : (f : Finding) → is_fits (Err f) ≡ false
unfolding is_fits
not_fits f = refl

pub is_fits_lem : (f : Judged) → f ≡ Fits → is_fits f ≡ true
unfolding is_fits
is_fits_lem f e = ap is_fits e

-- all fits where both do
pub or_both : (f g : Judged) → or_else f g ≡ Fits → (f ≡ Fits) × (g ≡ Fits)
unfolding or_else
or_both f g h = go (is_fits f) refl h
  where
    go : (t : Bool) → is_fits f ≡ t → cond t g f ≡ Fits → (f ≡ Fits) × (g ≡ Fits)
    go true e k = (fits_is f e, k)
    go false e k = absurd (true≢false (sym (is_fits_lem f k) ∙ e))

pub both_or : (f g : Judged) → f ≡ Fits → g ≡ Fits → or_else f g ≡ Fits
both_or f g e k = or_fits f g (is_fits_lem f e) ∙ k

-- Amounts

pub same_is : (a b : ℤ) → same_fen a b ≡ true → a ≡ b
unfolding same_fen
same_is (pos a) (pos b) e = ap pos (eqb-true a b e)
same_is (pos a) (negsuc b) e = absurd (true≢false (sym e))
same_is (negsuc a) (pos b) e = absurd (true≢false (sym e))
same_is (negsuc a) (negsuc b) e = ap negsuc (eqb-true a b e)

same_self : (z : ℤ) → same_fen z z ≡ true
unfolding same_fen
same_self (pos n) = eq-eqb n n refl
same_self (negsuc n) = eq-eqb n n refl

pub is_same : (a b : ℤ) → a ≡ b → same_fen a b ≡ true
is_same a b e = ap (λ (z : ℤ). same_fen z b) e ∙ same_self b

pub not_same : (a b : ℤ) → (a ≡ b → ⊥) → same_fen a b ≡ false
not_same a b h = go (same_fen a b) refl
  where
    go : (t : Bool) → same_fen a b ≡ t → t ≡ false
    go true e = absurd (h (same_is a b e))
    go false e = refl

-- amounts are compared by their bits
pub same_bits : (w : Width) (a b : ℤ) → SFits w a → SFits w b → eqb (of_z w a) (of_z w b) ≡ same_fen a b
same_bits w a b f g = go (ℕ_discrete (of_z w a) (of_z w b))
  where
    go : Dec (of_z w a ≡ of_z w b) → eqb (of_z w a) (of_z w b) ≡ same_fen a b
    go (yes e) = eq-eqb (of_z w a) (of_z w b) e ∙ sym (is_same a b (sym (to_z-of_z w a f) ∙ ap (to_z w) e ∙ to_z-of_z w b g))
    go (no n) = ne_eqb (of_z w a) (of_z w b) n ∙ sym (not_same a b (λ e. n (ap (of_z w) e)))
