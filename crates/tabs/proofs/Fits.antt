-- Where a page fits a book. Assumes nothing.
use mathlib.Core.Path.{◌≡◌, refl, sym, ◌∙◌, ap}
use mathlib.Core.Bool.{Bool, true, false, cond}
use mathlib.Core.List.{List, [], ◌∷◌}
use Prim.Native.Nat.{ℕ, zero, suc, ◌+◌, ◌*◌, ◌<◌, ◌≤◌}
use native.Mathlib.Omega.{arith}
use native.Mathlib.Decide.{ℕ_discrete}
use lib.Dec.{eqb, leb}
use lib.ListN.{length}
use borrow.Author.Tests.{eqb-true, eq-eqb, leb-true, le-leb}
use Rattle.le.proofs.Tests.{each, all}
use Rattle.call.specs.declared.Call.{Call}
use Rattle.call.specs.Services.{most_participant}
use Rattle.tabs.specs.declared.Tab.{Tab}
use Rattle.tabs.specs.Tabs.{tab_size, tabs_on, tabs_of, same_tab, fits_at, unfit_from, first_unfit}
use Rattle.tabs.proofs.Pages.{tab_path}

same_is : (t u : Tab) → same_tab t u ≡ true → t ≡ u
unfolding same_tab
same_is t u e =
    let h = each (eqb t.index u.index) (eqb t.count u.count ∷ eqb t.live u.live ∷ eqb t.contested u.contested ∷ eqb t.withdrawn u.withdrawn ∷ []) e in
    tab_path (eqb-true _ _ h.0) (eqb-true _ _ h.1.0) (eqb-true _ _ h.1.1.0) (eqb-true _ _ h.1.1.1.0) (eqb-true _ _ h.1.1.1.1.0)

is_same : (t u : Tab) → t ≡ u → same_tab t u ≡ true
unfolding same_tab
is_same t u e =
    rw e
    (all (eqb u.index u.index) (eqb u.count u.count ∷ eqb u.live u.live ∷ eqb u.contested u.contested ∷ eqb u.withdrawn u.withdrawn ∷ [])
    (self u.index, (self u.count, (self u.live, (self u.contested, (self u.withdrawn, tt))))))
  where
    self : (k : ℕ) → eqb k k ≡ true
    self k = eq-eqb k k refl

-- the test as two facts
pub fits_is : (page : List ℕ) (cs : List Call) (m : ℕ) → fits_at page cs m ≡ true → (tab_size * m ≤ length page) × (tabs_on page m ≡ tabs_of cs m)
unfolding fits_at
fits_is page cs m e =
    let h = each (leb (tab_size * m) (length page)) (same_tab (tabs_on page m) (tabs_of cs m) ∷ []) e in
    (leb-true _ _ h.0, same_is _ _ h.1.0)

pub is_fits_lem : (page : List ℕ) (cs : List Call) (m : ℕ) → tab_size * m ≤ length page → tabs_on page m ≡ tabs_of cs m → fits_at page cs m ≡ true
unfolding fits_at
is_fits_lem page cs m h e = all (leb (tab_size * m) (length page)) (same_tab (tabs_on page m) (tabs_of cs m) ∷ []) (le-leb _ _ h, (is_same _ _ e, tt))

-- The lowest member at which it does not
module _ (page : List ℕ) (cs : List Call) where
  unfit_step : (m left : ℕ) (b : Bool) → fits_at page cs m ≡ b → unfit_from page cs m (suc left) ≡ cond b (unfit_from page cs (suc m) left) m
  unfolding unfit_from
  unfit_step m left b e = ap (λ (x : Bool). cond x (unfit_from page cs (suc m) left) m) e

  -- either it fits at each of so many members, or not, at the lowest
  pub data Fit (m left r : ℕ) : Type 0 where
    everywhere : r ≡ 0 → ((j : ℕ) → m ≤ j → j < m + left → fits_at page cs j ≡ true) → Fit m left r
    lowest : m ≤ r → r < m + left → ((j : ℕ) → m ≤ j → j < r → fits_at page cs j ≡ true) → fits_at page cs r ≡ false → Fit m left r

  pub fit_from : (left m : ℕ) → Fit m left (unfit_from page cs m left)
  unfolding unfit_from
  fit_from zero m = everywhere refl (λ j h l. absurd (omega arith))
  fit_from (suc left) m = go (fits_at page cs m) refl (fit_from left (suc m))
    where
      here : fits_at page cs m ≡ true → (k : ℕ) → ((j : ℕ) → suc m ≤ j → j < k → fits_at page cs j ≡ true) → (j : ℕ) → m ≤ j → j < k → fits_at page cs j ≡ true
      here e k f j h l = at (ℕ_discrete m j)
        where
          at : Dec (m ≡ j) → fits_at page cs j ≡ true
          at (yes p) = ap (fits_at page cs) (sym p) ∙ e
          at (no p) = f j (omega arith) l

      next : fits_at page cs m ≡ true → Fit (suc m) left (unfit_from page cs (suc m) left) → Fit m (suc left) (unfit_from page cs m (suc left))
      next e (everywhere z f) =
          everywhere (unfit_step m left true e ∙ z) (here e (m + suc left) (λ j h l. f j h (omega arith)))
      next e (lowest h l f n) =
          let s = unfit_step m left true e in
          rw s (lowest (omega arith) (omega arith) (here e (unfit_from page cs (suc m) left) f) n)

      go : (b : Bool) → fits_at page cs m ≡ b → Fit (suc m) left (unfit_from page cs (suc m) left) → Fit m (suc left) (unfit_from page cs m (suc left))
      go true e i = next e i
      go false e i = rw (unfit_step m left false e) (lowest (omega arith) (omega arith) (λ j h l. absurd (omega arith)) e)

  pub fit_all : Fit 1 most_participant (first_unfit page cs)
  unfolding first_unfit
  fit_all = fit_from most_participant 1

  -- no member
  pub fits_each : first_unfit page cs ≡ 0 → (m : ℕ) → 1 ≤ m → m ≤ most_participant → fits_at page cs m ≡ true
  fits_each z m h l = go fit_all
    where
      go : Fit 1 most_participant (first_unfit page cs) → fits_at page cs m ≡ true
      go (everywhere e f) = f m h (omega arith)
      go (lowest k j f n) = absurd (omega arith)
