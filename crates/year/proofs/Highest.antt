-- The largest of a member's monthly amounts: at least every one, one of them, and the earliest. Assumes nothing.
use mathlib.Core.Path.{◌≡◌, refl, sym, ap, subst}
use mathlib.Core.Bool.{Bool, true, false, cond, not, true≢false}
use mathlib.Core.List.Memᴰ
use mathlib.Core.List.Memᴰ.{head as here}
use mathlib.Core.List.Memᴰ.{tail as there}
use mathlib.Core.List.{List, [], ◌∷◌, Memᴰ as In}
use mathlib.Core.Logic.{◌⊎◌, inl, inr}
use Prim.Native.Nat.{ℕ, ◌≤◌, ◌<◌}
use native.Mathlib.Omega.{arith}
use lib.Dec.{T}
use lib.IntN.{ℤ, pos, negsuc}
use borrow.Author.Tests.{ltb-true}
use lib.Signed.{lt_z, ◌≤ℤ◌, ◌<ℤ◌, lt_z_yes, lt_z_no, ≤ℤ_refl, <ℤ-≤ℤ_trans, clash_ℤ}
use Rattle.year.specs.declared.Largest.{Largest}
use Rattle.year.specs.Year.{MonthLine, amount_in, largest_from, largest_of}

-- The order

yes_T : (t : Bool) → t ≡ true → T t
yes_T true e = tt
yes_T false e = absurd (true≢false (sym e))

no_T : (t : Bool) → t ≡ false → T (not t)
no_T true e = absurd (true≢false e)
no_T false e = tt

pub above : (a b : ℤ) → lt_z a b ≡ true → a <ℤ b
above a b e = lt_z_yes (yes_T (lt_z a b) e)

pub at_most : (a b : ℤ) → lt_z b a ≡ false → a ≤ℤ b
at_most a b e = lt_z_no (no_T (lt_z b a) e)

≤<-trans : (a b c : ℤ) → a ≤ℤ b → b <ℤ c → a <ℤ c
≤<-trans a b c h k = go (lt_z a c) refl
  where
    go : (t : Bool) → lt_z a c ≡ t → a <ℤ c
    go true e = above a c e
    go false e = clash_ℤ (<ℤ-≤ℤ_trans k (at_most c a e)) h

≤≤-trans : (a b c : ℤ) → a ≤ℤ b → b ≤ℤ c → a ≤ℤ c
≤≤-trans a b c h k = go (lt_z c a) refl
  where
    go : (t : Bool) → lt_z c a ≡ t → a ≤ℤ c
    go false e = at_most a c e
    go true e = clash_ℤ (<ℤ-≤ℤ_trans (above c a e) h) k

<<-never : (a b : ℤ) → lt_z a b ≡ true → lt_z b a ≡ true → ⊥
<<-never (pos m) (pos n) h k = let p = ltb-true m n h in omega (arith, p, ltb-true n m k)
<<-never (pos m) (negsuc n) h k = true≢false (sym h)
<<-never (negsuc m) (pos n) h k = true≢false (sym k)
<<-never (negsuc m) (negsuc n) h k = let p = ltb-true n m h in omega (arith, p, ltb-true m n k)

up : (a b : ℤ) → lt_z a b ≡ true → a ≤ℤ b
up a b h = go (lt_z b a) refl
  where
    go : (t : Bool) → lt_z b a ≡ t → a ≤ℤ b
    go false e = at_most a b e
    go true e = absurd (<<-never a b h e)

-- The largest from an amount on

module _ (g : Largest) (e : MonthLine) where
  abbrev next : Largest
  next = cond (lt_z g.amount.0 e.line.amount.0) (amount_in e) g

  next_old : g.amount.0 ≤ℤ next.amount.0
  next_old = go (lt_z g.amount.0 e.line.amount.0) refl
    where
      go : (t : Bool) → lt_z g.amount.0 e.line.amount.0 ≡ t → g.amount.0 ≤ℤ (cond t (amount_in e) g).amount.0
      go true k = up g.amount.0 e.line.amount.0 k
      go false k = ≤ℤ_refl g.amount.0

  next_new : e.line.amount.0 ≤ℤ next.amount.0
  next_new = go (lt_z g.amount.0 e.line.amount.0) refl
    where
      go : (t : Bool) → lt_z g.amount.0 e.line.amount.0 ≡ t → e.line.amount.0 ≤ℤ (cond t (amount_in e) g).amount.0
      go true k = ≤ℤ_refl e.line.amount.0
      go false k = at_most e.line.amount.0 g.amount.0 k

from_least : (g : Largest) (es : List MonthLine) → g.amount.0 ≤ℤ (largest_from g es).amount.0
unfolding largest_from
from_least g [] = ≤ℤ_refl g.amount.0
from_least g (e ∷ es) = ≤≤-trans g.amount.0 (next g e).amount.0 (largest_from (next g e) es).amount.0 (next_old g e) (from_least (next g e) es)

from_top : (g : Largest) (es : List MonthLine) (x : MonthLine) → In x es → x.line.amount.0 ≤ℤ (largest_from g es).amount.0
unfolding largest_from
from_top g [] x m = absurd (Memᴰ.not-nil m)
from_top g (e ∷ es) x m = go (Memᴰ.cases_cons m) (from_top (next g e) es x)
  where
    most : ℤ
    most = (largest_from (next g e) es).amount.0

    go : (x ≡ e) ⊎ In x es → (In x es → x.line.amount.0 ≤ℤ most) → x.line.amount.0 ≤ℤ most
    go (inl is) rec =
        subst (λ (y : MonthLine). y.line.amount.0 ≤ℤ most) (sym is)
        (≤≤-trans e.line.amount.0 (next g e).amount.0 most (next_new g e) (from_least (next g e) es))
    go (inr k) rec = rec k

-- one of the amounts
from_one : (g : Largest) (es : List MonthLine) → (largest_from g es ≡ g) ⊎ ((x : MonthLine) × In x es × (largest_from g es ≡ amount_in x))
unfolding largest_from
from_one g [] = inl refl
from_one g (e ∷ es) = go (lt_z g.amount.0 e.line.amount.0) (λ h. from_one h es)
  where
    go : (t : Bool) → ((h : Largest) → (largest_from h es ≡ h) ⊎ ((x : MonthLine) × In x es × (largest_from h es ≡ amount_in x)))
        → (largest_from (cond t (amount_in e) g) es ≡ g) ⊎ ((x : MonthLine) × In x (e ∷ es) × (largest_from (cond t (amount_in e) g) es ≡ amount_in x))
    go true rec = of_new (rec (amount_in e))
      where
        of_new : (largest_from (amount_in e) es ≡ amount_in e) ⊎ ((x : MonthLine) × In x es × (largest_from (amount_in e) es ≡ amount_in x))
            → (largest_from (amount_in e) es ≡ g) ⊎ ((x : MonthLine) × In x (e ∷ es) × (largest_from (amount_in e) es ≡ amount_in x))
        of_new (inl is) = inr (e, here refl, is)
        of_new (inr k) = inr (k.0, there k.1, k.2)
    go false rec = of-old (rec g)
      where
        of-old : (largest_from g es ≡ g) ⊎ ((x : MonthLine) × In x es × (largest_from g es ≡ amount_in x))
            → (largest_from g es ≡ g) ⊎ ((x : MonthLine) × In x (e ∷ es) × (largest_from g es ≡ amount_in x))
        of-old (inl is) = inl is
        of-old (inr k) = inr (k.0, there k.1, k.2)

-- months above m, rising
abbrev pub LinesRise : ℕ → List MonthLine → Type 0
LinesRise m [] = Unit {0}
LinesRise m (e ∷ es) = (m < e.month) × LinesRise e.month es

pub lines_lower : (m n : ℕ) (es : List MonthLine) → n ≤ m → LinesRise m es → LinesRise n es
lines_lower m n [] h r = tt
lines_lower m n (e ∷ es) h r = (omega (arith, h, r.0), r.1)

-- an earlier amount is below the largest
from_first_lem : (g : Largest) (es : List MonthLine) → LinesRise g.month es → g.month < (largest_from g es).month → g.amount.0 <ℤ (largest_from g es).amount.0
unfolding largest_from
from_first_lem g [] r h = absurd (omega (arith, h))
from_first_lem g (e ∷ es) r h = go (lt_z g.amount.0 e.line.amount.0) refl h (from_first_lem g es (lines_lower e.month g.month es (omega (arith, r.0)) r.1))
  where
    go : (t : Bool) → lt_z g.amount.0 e.line.amount.0 ≡ t → g.month < (largest_from (cond t (amount_in e) g) es).month
        → (g.month < (largest_from g es).month → g.amount.0 <ℤ (largest_from g es).amount.0) → g.amount.0 <ℤ (largest_from (cond t (amount_in e) g) es).amount.0
    go true k i rec = <ℤ-≤ℤ_trans (above g.amount.0 e.line.amount.0 k) (from_least (amount_in e) es)
    go false k i rec = rec i

pub from_earlier : (g : Largest) (es : List MonthLine) → LinesRise g.month es → (x : MonthLine) → In x es → x.month < (largest_from g es).month
    → x.line.amount.0 <ℤ (largest_from g es).amount.0
unfolding largest_from
from_earlier g [] r x m h = absurd (Memᴰ.not-nil m)
from_earlier g (e ∷ es) r x m h =
    go (lt_z g.amount.0 e.line.amount.0) refl (Memᴰ.cases_cons m) h
    (λ t k. from_earlier (amount_in e) es r.1 x t k)
    (λ t k. from_earlier g es (lines_lower e.month g.month es (omega (arith, r.0)) r.1) x t k)
  where
    go : (t : Bool) → lt_z g.amount.0 e.line.amount.0 ≡ t → (x ≡ e) ⊎ In x es → x.month < (largest_from (cond t (amount_in e) g) es).month
        → (In x es → x.month < (largest_from (amount_in e) es).month → x.line.amount.0 <ℤ (largest_from (amount_in e) es).amount.0)
        → (In x es → x.month < (largest_from g es).month → x.line.amount.0 <ℤ (largest_from g es).amount.0)
        → x.line.amount.0 <ℤ (largest_from (cond t (amount_in e) g) es).amount.0
    go true k (inl is) i new old =
        let same = ap (λ (y : MonthLine). y.month) is in
        subst (λ (y : MonthLine). y.line.amount.0 <ℤ (largest_from (amount_in e) es).amount.0) (sym is) (from_first_lem (amount_in e) es r.1 (omega (arith, same, i)))
    go true k (inr t) i new old = new t i
    go false k (inl is) i new old =
        let same = ap (λ (y : MonthLine). y.month) is in
        let first = from_first_lem g es (lines_lower e.month g.month es (omega (arith, r.0)) r.1) (omega (arith, same, i, r.0)) in
        subst (λ (y : MonthLine). y.line.amount.0 <ℤ (largest_from g es).amount.0) (sym is)
        (≤<-trans e.line.amount.0 g.amount.0 (largest_from g es).amount.0 (at_most e.line.amount.0 g.amount.0 k) first)
    go false k (inr t) i new old = old t i

-- OF A MEMBER'S LINES, their months rising: the largest is at least each amount,
pub largest_top : (es : List MonthLine) (x : MonthLine) → In x es → x.line.amount.0 ≤ℤ (largest_of es).amount.0
unfolding largest_of
largest_top [] x m = absurd (Memᴰ.not-nil m)
largest_top (e ∷ es) x m = go (Memᴰ.cases_cons m)
  where
    go : (x ≡ e) ⊎ In x es → x.line.amount.0 ≤ℤ (largest_from (amount_in e) es).amount.0
    go (inl is) = subst (λ (y : MonthLine). y.line.amount.0 ≤ℤ (largest_from (amount_in e) es).amount.0) (sym is) (from_least (amount_in e) es)
    go (inr k) = from_top (amount_in e) es x k

-- it is one of them, with its month,
pub largest_one : (es : List MonthLine) (x : MonthLine) → In x es → (y : MonthLine) × In y es × (largest_of es ≡ amount_in y)
unfolding largest_of
largest_one [] x m = absurd (Memᴰ.not-nil m)
largest_one (e ∷ es) x m = go (from_one (amount_in e) es)
  where
    go : (largest_from (amount_in e) es ≡ amount_in e) ⊎ ((y : MonthLine) × In y es × (largest_from (amount_in e) es ≡ amount_in y))
        → (y : MonthLine) × In y (e ∷ es) × (largest_from (amount_in e) es ≡ amount_in y)
    go (inl is) = (e, here refl, is)
    go (inr k) = (k.0, there k.1, k.2)

-- and no earlier month has it
pub largest_earliest : (m : ℕ) (es : List MonthLine) → LinesRise m es → (x : MonthLine) → In x es → x.month < (largest_of es).month → x.line.amount.0 <ℤ (largest_of es).amount.0
unfolding largest_of
largest_earliest m [] r x k h = absurd (Memᴰ.not-nil k)
largest_earliest m (e ∷ es) r x k h = go (Memᴰ.cases_cons k)
  where
    go : (x ≡ e) ⊎ In x es → x.line.amount.0 <ℤ (largest_from (amount_in e) es).amount.0
    go (inl is) =
        let same = ap (λ (y : MonthLine). y.month) is in
        subst (λ (y : MonthLine). y.line.amount.0 <ℤ (largest_from (amount_in e) es).amount.0) (sym is) (from_first_lem (amount_in e) es r.1 (omega (arith, same, h)))
    go (inr t) = from_earlier (amount_in e) es r.1 x t h
