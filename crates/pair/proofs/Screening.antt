-- The refusals of two books, and what follows where there is none. Assumes nothing.
use mathlib.Core.Path.{◌≡◌, refl, sym, ◌∙◌, ap}
use mathlib.Core.Bool.{Bool, true, false}
use mathlib.Core.Logic.{inl, inr}
use mathlib.Core.List.{List}
use Prim.Native.Nat.{ℕ, ◌+◌, ◌≤◌}
use native.Mathlib.Omega.{arith}
use native.Mathlib.Decide.{ℕ_discrete}
use borrow.Author.Tests.{ne_eqb}
use Rattle.book.specs.declared.Verdict.{Verdict}
use Rattle.book.specs.Book.{header_at}
use Rattle.book.specs.Check.{refused, accepted, check}
use Rattle.book.proofs.Judged.{Judged, check_judged}
use Rattle.pair.specs.Screening.{IsAccepted, raised, both_sound, same_month, screen}

-- The refusals of each book alone

module _ (a b : List ℕ) where
  pub both_first : (v : Verdict) → v ≡ check a → (v.number ≡ 0 → ⊥) → v ≡ both_sound a b
  unfolding both_sound
  both_first v e z = rw (← e, ne_eqb v.number 0 z) refl

  module _ (p : IsAccepted a) where
    pub both_second : (w : Verdict) → w ≡ check b → (w.number ≡ 0 → ⊥) → raised w ≡ both_sound a b
    unfolding both_sound
    both_second w e z = rw (p, ← e, ne_eqb w.number 0 z) refl

    pub both_pass : IsAccepted b → accepted ≡ both_sound a b
    unfolding both_sound
    both_pass q = rw (p, q) refl

-- the ways out of it
pub data Both (a b : List ℕ) : Type 0 where
  first_bad_lem : 1 ≤ (check a).number → (check a).number ≤ 6 → check a ≡ both_sound a b → Both a b
  second_bad : 1 ≤ (check b).number → (check b).number ≤ 6 → raised (check b) ≡ both_sound a b → Both a b
  neither_bad : IsAccepted a → IsAccepted b → accepted ≡ both_sound a b → Both a b

pub both : (a b : List ℕ) → Both a b
both a b = go (check_judged a) (check_judged b)
  where
    go : Judged (check a) → Judged (check b) → Both a b
    go (inr p) q = let l = p.0 in first_bad_lem l p.1 (both_first a b (check a) refl (λ z. omega arith))
    go (inl p) (inr q) = let l = q.0 in second_bad l q.1 (both_second a b p (check b) refl (λ z. omega arith))
    go (inl p) (inl q) = neither_bad p q (both_pass a b p q)

pub passed_both : (a b : List ℕ) → (both_sound a b).number ≡ 0 → IsAccepted a × IsAccepted b
passed_both a b z = go (both a b)
  where
    go : Both a b → IsAccepted a × IsAccepted b
    go (first_bad_lem l h e) = absurd (omega (arith, ap (λ (v : Verdict). v.number) e))
    go (second_bad l h e) = absurd (omega (arith, ap (λ (v : Verdict). v.number) e))
    go (neither_bad p q e) = (p, q)

-- Then the month

module _ (a b : List ℕ) where
  pub screen_both : (v : Verdict) → v ≡ both_sound a b → (v.number ≡ 0 → ⊥) → v ≡ screen a b
  unfolding screen
  screen_both v e z = rw (← e, ne_eqb v.number 0 z) refl

  module _ (p : IsAccepted a) (q : IsAccepted b) where
    pub screen_month : same_month (header_at a) (header_at b) ≡ false → refused 7 0 ≡ screen a b
    unfolding screen
    screen_month e = rw (← both_pass a b p q, e) refl

    pub screen_passes : same_month (header_at a) (header_at b) ≡ true → accepted ≡ screen a b
    unfolding screen
    screen_passes e = rw (← both_pass a b p q, e) refl

-- a fault of the second book, where the first has none: its number raised by 20, and its place in the second book
pub second_raised : (a b : List ℕ) → IsAccepted a → (n p : ℕ) → check b ≡ refused n p → (n ≡ 0 → ⊥) → screen a b ≡ refused (n + 20) p
second_raised a b s n p e z = sym (screen_both a b _ (both_second a b s (refused n p) (sym e) z) (λ y. omega arith))

-- what a passed screen says
pub record Screened (a b : List ℕ) : Type 0 where
  pub first : IsAccepted a
  pub second : IsAccepted b
  pub month : same_month (header_at a) (header_at b) ≡ true

pub passed_screen : (a b : List ℕ) → (screen a b).number ≡ 0 → Screened a b
passed_screen a b z = go (ℕ_discrete (both_sound a b).number 0) (same_month (header_at a) (header_at b)) refl
  where
    go : Dec ((both_sound a b).number ≡ 0) → (t : Bool) → same_month (header_at a) (header_at b) ≡ t → Screened a b
    go (no n) t e = absurd (n (ap (λ (v : Verdict). v.number) (screen_both a b (both_sound a b) refl n) ∙ z))
    go (yes n) false e =
        let p = passed_both a b n in
        absurd (let k : 7 ≡ 0 = ap (λ (v : Verdict). v.number) (screen_month a b p.0 p.1 e) ∙ z in omega arith)
    go (yes n) true e = let p = passed_both a b n in record { first = p.0; second = p.1; month = e }

pub zero_screened : (a b : List ℕ) → (screen a b).number ≡ 0 → screen a b ≡ accepted
zero_screened a b z = let s = passed_screen a b z in sym (screen_passes a b s.first s.second s.month)
