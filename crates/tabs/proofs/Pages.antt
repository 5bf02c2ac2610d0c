-- The bytes of tabs and of pages. Assumes nothing.
use mathlib.Core.Path.{◌≡◌, refl, sym, ◌∙◌, ap}
use mathlib.Core.List.{List, ◌++◌}
use Prim.Native.Nat.{ℕ, zero, suc, ◌+◌, ◌*◌, ◌-◌, ◌≤◌}
use native.Mathlib.Nat.{zero-add}
use native.Mathlib.Omega.{arith}
use lib.ListN.{length, drop, length-append}
use lib.Seq.{sets, sets-eq, length-sets}
use Rattle.le.specs.Le.{le_bytes, Stores}
use Rattle.le.proofs.Laws.{then}
use Rattle.tabs.specs.declared.Tab.{Tab}
use Rattle.tabs.specs.Tabs.{tab_size, tab_place, tab_bytes, tabs_bytes}
use Rattle.tabs.specs.Outcome.{laid_over}

pub tab_path : {t u : Tab} → t.index ≡ u.index → t.count ≡ u.count → t.live ≡ u.live → t.contested ≡ u.contested → t.withdrawn ≡ u.withdrawn → t ≡ u
tab_path i c l d w = λ k. record { index = i k; count = c k; live = l k; contested = d k; withdrawn = w k }

pub length_tab : (t : Tab) → length (tab_bytes t) ≡ tab_size
unfolding tab_bytes le_bytes
length_tab t = refl

pub length_tabs : (f : ℕ → Tab) (n : ℕ) → length (tabs_bytes f n) ≡ tab_size * n
unfolding tabs_bytes
length_tabs f zero = refl
length_tabs f (suc n) = omega (arith, length-append (tabs_bytes f n) (tab_bytes (f (suc n))), length_tabs f n, length_tab (f (suc n)))

tabs_more : (f : ℕ → Tab) (m : ℕ) → 1 ≤ m → tabs_bytes f (m - 1) ++ tab_bytes (f m) ≡ tabs_bytes f ((m + 1) - 1)
unfolding tabs_bytes
tabs_more f m h =
    let k = m - 1 in
    let e : suc k ≡ m = omega arith in
    let g : suc k ≡ (m + 1) - 1 = omega arith in
    ap (λ (j : ℕ). tabs_bytes f k ++ tab_bytes (f j)) (sym e) ∙ ap (tabs_bytes f) g

-- a member's tab behind those of the members below it
pub stores_more : (f : ℕ → Tab) (m : ℕ) {page mid after : List ℕ} → 1 ≤ m → Stores page 0 (tabs_bytes f (m - 1)) mid → Stores mid (tab_place m) (tab_bytes (f m)) after
    → Stores page 0 (tabs_bytes f ((m + 1) - 1)) after
stores_more f m h s t = rw (tabs_more f m h) at (then (tab_place m) (omega (arith, length_tabs f (m - 1))) s t)

-- members 1 to n
pub tabs_same : (f g : ℕ → Tab) (n : ℕ) → ((m : ℕ) → 1 ≤ m → m ≤ n → f m ≡ g m) → tabs_bytes f n ≡ tabs_bytes g n
unfolding tabs_bytes
tabs_same f g zero e = refl
tabs_same f g (suc n) e =
    ap (λ (l : List ℕ). l ++ tab_bytes (f (suc n))) (tabs_same f g n (λ m h l. e m h (omega arith)))
    ∙ ap (λ (t : Tab). tabs_bytes g n ++ tab_bytes t) (e (suc n) (omega arith) (omega arith))

pub length_stored : {page after bytes : List ℕ} {at : ℕ} → Stores page at bytes after → length after ≡ length page
length_stored {page} {after} {bytes} {at} s = ap length s.is ∙ length-sets page at bytes

-- bytes stored from the start on
pub laid : (bytes page after : List ℕ) → length bytes ≤ length page → Stores page 0 bytes after → after ≡ laid_over bytes page
laid bytes page after h s =
    s.is ∙ sets-eq bytes page 0 (omega arith) ∙ ap (λ (k : ℕ). bytes ++ drop k page) (zero-add (length bytes))

-- bytes stored over two lists that are the same behind them
pub sets_over : (bytes l k : List ℕ) (n : ℕ) → length bytes ≡ n → n ≤ length l → length l ≡ length k → drop n l ≡ drop n k → sets l 0 bytes ≡ sets k 0 bytes
sets_over bytes l k n e h f d =
    let z : 0 + length bytes ≡ n = omega arith in
    sets-eq bytes l 0 (omega arith) ∙ ap (λ (j : ℕ). bytes ++ drop j l) z ∙ ap (λ (r : List ℕ). bytes ++ r) d
    ∙ ap (λ (j : ℕ). bytes ++ drop j k) (sym z) ∙ sym (sets-eq bytes k 0 (omega arith))
