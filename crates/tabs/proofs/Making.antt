-- A book's own page, member by member: written, and compared with a page. Assumes nothing.
use mathlib.Core.Path.{◌≡◌, refl, sym, ◌∙◌, ap}
use mathlib.Core.Bool.{Bool, true, false}
use mathlib.Core.List.{List}
use Prim.Native.Nat.{ℕ, suc, ◌+◌, ◌*◌, ◌-◌, ◌<◌, ◌≤◌}
use native.Mathlib.Omega.{arith}
use lib.Dec.{eqb}
use lib.ListN.{length}
use borrow.Author.Tests.{eqb-false, le-leb, lt-leb}
use Rattle.le.specs.Le.{IsBytes, Stores}
use Rattle.book.specs.Book.{most_keys, size_of, calls_of}
use Rattle.pair.specs.Screening.{IsAccepted}
use Rattle.join.specs.Steps.{left_from}
use Rattle.join.proofs.Books.{few}
use Rattle.tabs.specs.declared.Tab.{Tab}
use Rattle.tabs.specs.Tabs.{tab_size, tab_place, tabs_on, own_of, tabs_of, same_tab, tab_bytes, tabs_bytes, own_page, fits_at, unfit_from, first_unfit}
use Rattle.tabs.specs.Inner.{UpTo}
use Rattle.tabs.proofs.Walking.{starts, own_is, next_member}
use Rattle.tabs.proofs.Pages.{stores_more}
use Rattle.tabs.proofs.Fits.{fits_is}

-- the place of a book that is read lies within any book
pub place_few : {b : List ℕ} {m at : ℕ} → UpTo b m at → at ≤ size_of most_keys
place_few {b} g =
    let r = g.coming.read in
    let p = r.place in
    let i = r.within in
    omega (arith, few b r.accepted)

module _ {b : List ℕ} {m at : ℕ} (g : UpTo b m at) where
  pub next_up : (t : Tab) → t ≡ tabs_of (calls_of b) m → UpTo b (m + 1) (at + 32 * t.count)
  next_up t e = let k : m + 1 ≡ suc m = omega arith in rw (k, e) (next_member g)

-- Compared

pub too_short : (page b : List ℕ) (m : ℕ) → length page < tab_size * m → false ≡ fits_at page (calls_of b) m
unfolding fits_at
too_short page b m h = rw (lt-leb _ _ h) refl

pub other_count : {b : List ℕ} {m at : ℕ} → UpTo b m at → (page : List ℕ) (t : Tab) → t ≡ tabs_on page m → eqb t.count (length (own_of m (left_from b at))) ≡ false
    → false ≡ fits_at page (calls_of b) m
unfolding tabs_of
other_count {b} {m} {at} g page t e f = go (fits_at page (calls_of b) m) refl
  where
    go : (x : Bool) → fits_at page (calls_of b) m ≡ x → false ≡ x
    go false p = refl
    go true p = absurd (eqb-false _ _ f (ap (λ (u : Tab). u.count) (e ∙ (fits_is page (calls_of b) m p).1) ∙ count ∙ ap length (own_is g)))
      where
        count : (tabs_of (calls_of b) m).count ≡ length (own_of m (calls_of b))
        count = refl

pub fits_by : (page b : List ℕ) (m : ℕ) {t u : Tab} → tab_size * m ≤ length page → t ≡ tabs_on page m → u ≡ tabs_of (calls_of b) m → same_tab t u ≡ fits_at page (calls_of b) m
unfolding fits_at
fits_by page b m {t} {u} h e f = rw (le-leb _ _ h) (ap (λ (x : Tab). same_tab x u) e ∙ ap (same_tab (tabs_on page m)) f)

pub record Fitting (page b : List ℕ) (m at : ℕ) : Type 0 where
  pub up : UpTo b m at
  pub member : (1 ≤ m) × (m ≤ 65)
  pub is : unfit_from page (calls_of b) m (65 - m) ≡ first_unfit page (calls_of b)

pub fit_starts : (page b : List ℕ) → IsBytes b → IsAccepted b → Fitting page b 1 16
unfolding first_unfit
fit_starts page b small p = record { up = starts b small p; member = (omega arith, omega arith); is = refl }

module _ {page b : List ℕ} {m at : ℕ} (g : Fitting page b m at) (h : m ≤ 64) where
  left : 65 - m ≡ suc (65 - (m + 1))
  left = omega arith

  pub fit_next : fits_at page (calls_of b) m ≡ true → (n : ℕ) → n ≡ (tabs_on page m).count → Fitting page b (m + 1) (at + 32 * n)
  unfolding unfit_from
  fit_next f n c =
      let p = g.member in
      let k : m + 1 ≡ suc m = omega arith in
      let i : unfit_from page (calls_of b) m (suc (65 - (m + 1))) ≡ unfit_from page (calls_of b) (suc m) (65 - (m + 1)) = rw f refl in
      let t = (fits_is page (calls_of b) m f).1 in
      record {
        up = rw (c ∙ ap (λ (t : Tab). t.count) t) (next_up g.up (tabs_of (calls_of b) m) refl);
        member = (omega arith, omega arith);
        is = ap (λ (j : ℕ). unfit_from page (calls_of b) j (65 - (m + 1))) k ∙ sym i ∙ ap (unfit_from page (calls_of b) m) (sym left) ∙ g.is;
      }

  pub fit_not : fits_at page (calls_of b) m ≡ false → m ≡ first_unfit page (calls_of b)
  unfolding unfit_from
  fit_not f =
      let i : unfit_from page (calls_of b) m (suc (65 - (m + 1))) ≡ m = rw f refl in
      sym i ∙ ap (unfit_from page (calls_of b) m) (sym left) ∙ g.is

pub fit_over : {page b : List ℕ} {m at : ℕ} → Fitting page b m at → 64 < m → 0 ≡ first_unfit page (calls_of b)
unfolding unfit_from
fit_over {page} {b} {m} g h =
    let e : 65 - m ≡ 0 = omega arith in
    ap (unfit_from page (calls_of b) m) (sym e) ∙ g.is

-- Written

pub record Putting (b page : List ℕ) (m at : ℕ) (mid : List ℕ) : Type 0 where
  pub up : UpTo b m at
  pub member : (1 ≤ m) × (m ≤ 65)
  pub is : Stores page 0 (tabs_bytes (tabs_of (calls_of b)) (m - 1)) mid

pub put_starts : (b page : List ℕ) → IsBytes b → IsAccepted b → Putting b page 1 16 page
unfolding tabs_bytes
put_starts b page small p = record { up = starts b small p; member = (omega arith, omega arith); is = record { is = refl } }

pub put_next : {b page mid after : List ℕ} {m at : ℕ} → Putting b page m at mid → m ≤ 64 → (t : Tab) → t ≡ tabs_of (calls_of b) m → Stores mid (tab_place m) (tab_bytes t) after
    → Putting b page (m + 1) (at + 32 * t.count) after
put_next {b} {m = m} g h t e s =
    let p = g.member in
    record {
      up = next_up g.up t e;
      member = (omega arith, omega arith);
      is = stores_more (tabs_of (calls_of b)) m p.0 g.is (rw e at s);
    }

pub put_over : {b page mid : List ℕ} {m at : ℕ} → Putting b page m at mid → 64 < m → Stores page 0 (own_page (calls_of b)) mid
put_over {b} {page} {mid} {m} g h =
    let p = g.member in
    let e : m - 1 ≡ 64 = omega arith in
    rw e at g.is
