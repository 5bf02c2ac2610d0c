-- Tabs by the counts of a page, member by member. Assumes nothing.
use mathlib.Core.Path.{◌≡◌, refl, sym, ◌∙◌, ap, ap₂}
use mathlib.Core.Logic.{inr}
use mathlib.Core.List.{List}
use Prim.Native.Nat.{ℕ, zero, suc, ◌+◌, ◌*◌, ◌-◌, ◌<◌, ◌≤◌}
use native.Mathlib.Omega.{arith}
use native.Mathlib.Decide.{dec_le}
use lib.ListN.{length, take, drop}
use lib.Seq.{sets, take-add, length-take-le}
use Rattle.le.specs.Le.{le_at, le_bytes, IsBytes, Stores}
use Rattle.le.proofs.Laws.{then}
use Rattle.join.proofs.Copies.{eight_bytes}
use Rattle.tabs.specs.declared.Tab.{Tab}
use Rattle.tabs.specs.Tabs.{tab_place, page_size, tab_at, tabs_on, tab_bytes, tabs_bytes, page_bytes}
use Rattle.tabs.specs.Forward.{sum_to}
use Rattle.tabs.specs.Inner.{index_for, retab, states_on, retabs}
use Rattle.tabs.proofs.Stored.{beside}
use Rattle.tabs.proofs.Pages.{length_tabs, stores_more}

-- Sums

pub sum_next : (f : ℕ → ℕ) (m : ℕ) → 1 ≤ m → sum_to f (m - 1) + f m ≡ sum_to f ((m + 1) - 1)
unfolding sum_to
sum_next f m h =
    let e : suc (m - 1) ≡ m = omega arith in
    let g : suc (m - 1) ≡ (m + 1) - 1 = omega arith in
    ap (λ (j : ℕ). sum_to f (m - 1) + f j) (sym e) ∙ ap (sum_to f) g

pub sum_grows : (f : ℕ → ℕ) (n k : ℕ) → n ≤ k → sum_to f n ≤ sum_to f k
unfolding sum_to
sum_grows f n zero h = let e : n ≡ 0 = omega arith in omega (arith, ap (sum_to f) e)
sum_grows f n (suc k) h = go (dec_le n k) (sum_grows f n k)
  where
    go : Dec (n ≤ k) → (n ≤ k → sum_to f n ≤ sum_to f k) → sum_to f n ≤ sum_to f k + f (suc k)
    go (yes l) ih = let i = ih l in omega arith
    go (no l) ih = let e : n ≡ suc k = omega arith in omega (arith, ap (sum_to f) e)

pub retab_is : (below all i : ℕ) (t : Tab) → i ≡ index_for (t.live + t.contested + t.withdrawn) below all
    → record { index = i; count = t.live + t.contested + t.withdrawn; live = t.live; contested = t.contested; withdrawn = t.withdrawn } ≡ retab below all t
unfolding retab
retab_is below all i t e = λ k. record { index = e k; count = t.live + t.contested + t.withdrawn; live = t.live; contested = t.contested; withdrawn = t.withdrawn }

-- A tab behind what was stored
tab_behind : (vs l : List ℕ) (at o : ℕ) → at + length vs ≤ o → tab_at (sets l at vs) o ≡ tab_at l o
unfolding tab_at
tab_behind vs l at o h i =
    record {
      index = beside 2 vs l at o (inr h) i;
      count = beside 2 vs l at (o + 2) (inr (omega arith)) i;
      live = beside 2 vs l at (o + 4) (inr (omega arith)) i;
      contested = beside 2 vs l at (o + 6) (inr (omega arith)) i;
      withdrawn = beside 2 vs l at (o + 8) (inr (omega arith)) i;
    }

pub record Tabbing (page : List ℕ) (all m below : ℕ) (mid : List ℕ) : Type 0 where
  pub member : (1 ≤ m) × (m ≤ 65)
  pub below_is : below ≡ sum_to (states_on page) (m - 1)
  pub is : Stores page 0 (tabs_bytes (retabs page all) (m - 1)) mid

pub tab_starts : (page : List ℕ) (all : ℕ) → Tabbing page all 1 0 page
unfolding tabs_bytes sum_to
tab_starts page all = record { member = (omega arith, omega arith); below_is = refl; is = record { is = refl } }

module _ {page : List ℕ} {all m below : ℕ} {mid : List ℕ} (g : Tabbing page all m below mid) where
  same_tab_lem : tabs_on mid m ≡ tabs_on page m
  same_tab_lem =
      ap (λ (l : List ℕ). tab_at l (tab_place m)) g.is.is
      ∙ tab_behind (tabs_bytes (retabs page all) (m - 1)) page 0 (tab_place m) (omega (arith, length_tabs (retabs page all) (m - 1)))

  same_states : states_on mid m ≡ states_on page m
  unfolding states_on
  same_states = ap (λ (t : Tab). t.live + t.contested + t.withdrawn) same_tab_lem

  sum_here : below + states_on mid m ≡ sum_to (states_on page) ((m + 1) - 1)
  sum_here = ap₂ ◌+◌ g.below_is same_states ∙ sum_next (states_on page) m g.member.0

  pub sum_fits : m ≤ 64 → sum_to (states_on page) 64 < 65536 → below + states_on mid m < 65536
  sum_fits h f =
      let p = g.member in
      omega (arith, sum_here, sum_grows (states_on page) ((m + 1) - 1) 64 (omega arith))

  pub tab_next : {r : ℕ} {after : List ℕ} → m ≤ 64 → r ≡ below + states_on mid m → Stores mid (tab_place m) (tab_bytes (retab below all (tabs_on mid m))) after
      → Tabbing page all (m + 1) r after
  unfolding retabs
  tab_next h e s =
      let p = g.member in
      record {
        member = (omega arith, omega arith);
        below_is = e ∙ sum_here;
        is = stores_more (retabs page all) m p.0 g.is (rw (same_tab_lem, g.below_is) at s);
      }

  pub tab_over : 64 < m → Stores page 0 (page_bytes (retabs page all)) mid
  tab_over h =
      let p = g.member in
      let e : m - 1 ≡ 64 = omega arith in
      rw e at g.is

-- The given page copied

pub record Copying (given page : List ℕ) (words : ℕ) (mid : List ℕ) : Type 0 where
  pub most : words ≤ 80
  pub is : Stores page 0 (take (8 * words) given) mid

pub copy_starts : (given page : List ℕ) → Copying given page 0 page
copy_starts given page = record { most = omega arith; is = record { is = refl } }

pub copy_next : {given page mid after : List ℕ} {words v : ℕ} → IsBytes given → page_size ≤ length given → Copying given page words mid → words < 80
    → v ≡ le_at given (8 * words) 8 → Stores mid (8 * words) (le_bytes 8 v) after → Copying given page (words + 1) after
copy_next {given} {page} {mid} {after} {words} {v} small long g h e s =
    let b : le_bytes 8 v ≡ take 8 (drop (8 * words) given) = ap (le_bytes 8) e ∙ eight_bytes given small (8 * words) (omega arith) in
    let n : 8 * words + 8 ≡ 8 * (words + 1) = omega arith in
    record {
      most = omega arith;
      is =
          rw n at (rw (sym (take-add (8 * words) 8 given)) at
          (then (8 * words) (omega (arith, length-take-le (8 * words) given (omega arith))) g.is (rw b at s)));
    }

pub copy_over : {given page mid : List ℕ} {words : ℕ} → Copying given page words mid → 80 ≤ words → Stores page 0 (take page_size given) mid
copy_over {words = words} g h =
    let m = g.most in
    let e : 8 * words ≡ page_size = omega arith in
    rw e at g.is
