-- Tabs read back from their bytes, and a page that fits as bytes. Assumes nothing.
use mathlib.Core.Path.{◌≡◌, refl, sym, ◌∙◌, ap}
use mathlib.Core.Bool.{true}
use mathlib.Core.Logic.{◌↔◌}
use mathlib.Core.List.{List, [], ◌∷◌, ◌++◌, append_assoc, append-nil}
use Prim.Native.Nat.{ℕ, zero, suc, ◌+◌, ◌<◌, ◌≤◌}
use native.Mathlib.Nat.{add-zero}
use native.Mathlib.Omega.{arith}
use native.Mathlib.Decide.{ℕ_discrete}
use lib.ListN.{length, take, drop}
use lib.Seq.{take_at, take-add, drop-drop}
use Rattle.le.specs.Le.{le_at, le_bytes, IsBytes}
use Rattle.le.proofs.Laws.{bytes_at, again, back, cat, split, le_at_drop, le_at_append}
use Rattle.call.specs.declared.Call.{Call}
use Rattle.call.specs.Revising.{live, contested, withdrawn}
use Rattle.call.specs.Services.{most_participant}
use Rattle.book.specs.Book.{most_keys}
use Rattle.tabs.specs.declared.Tab.{Tab}
use Rattle.tabs.specs.Tabs.{first_index, own_of, of_state, tabs_of, tab_size, tab_place, tab_at, tabs_on, tab_bytes, tabs_bytes, page_bytes, Fits, fits_at}
use Rattle.tabs.proofs.Members.{first_hit, first_miss, state_hit, state_miss}
use Rattle.tabs.proofs.Walking.{own_short}
use Rattle.tabs.proofs.Stored.{in_front}
use Rattle.tabs.proofs.Pages.{tab_path, length_tabs}
use Rattle.tabs.proofs.Fits.{fits_is, is_fits_lem}

-- each number of a tab fits its two bytes
pub record Small (t : Tab) : Type 0 where
  pub index : t.index < 65536
  pub count : t.count < 65536
  pub live : t.live < 65536
  pub contested : t.contested < 65536
  pub withdrawn : t.withdrawn < 65536

first_most : (m : ℕ) (cs : List Call) → first_index m cs ≤ length cs
unfolding first_index
first_most m [] = omega arith
first_most m (c ∷ cs) = go (first_most m cs) (ℕ_discrete c.participant m)
  where
    go : first_index m cs ≤ length cs → Dec (c.participant ≡ m) → first_index m (c ∷ cs) ≤ suc (length cs)
    go ih (yes e) = omega (arith, first_hit m c cs e)
    go ih (no e) = omega (arith, first_miss m c cs e)

state_most : (s : ℕ) (cs : List Call) → of_state s cs ≤ length cs
unfolding of_state
state_most s [] = omega arith
state_most s (c ∷ cs) = go (state_most s cs) (ℕ_discrete c.state s)
  where
    go : of_state s cs ≤ length cs → Dec (c.state ≡ s) → of_state s (c ∷ cs) ≤ suc (length cs)
    go ih (yes e) = omega (arith, state_hit s c cs e)
    go ih (no e) = omega (arith, state_miss s c cs e)

pub tabs_small : (cs : List Call) → length cs ≤ most_keys → (m : ℕ) → Small (tabs_of cs m)
unfolding tabs_of
tabs_small cs h m =
    let o = own_short m cs in
    record {
      index = omega (arith, first_most m cs);
      count = omega arith;
      live = omega (arith, state_most live (own_of m cs));
      contested = omega (arith, state_most contested (own_of m cs));
      withdrawn = omega (arith, state_most withdrawn (own_of m cs));
    }

-- Reading what was written

tab_reads : (t : Tab) → Small t → (r : List ℕ) → tab_at (tab_bytes t ++ r) 0 ≡ t
unfolding tab_at tab_bytes le_at le_bytes
tab_reads t s r =
    tab_path (back 2 t.index [] s.index) (back 2 t.count [] s.count) (back 2 t.live [] s.live) (back 2 t.contested [] s.contested)
    (back 2 t.withdrawn [] s.withdrawn)

tab_append : (p s : List ℕ) → tab_at (p ++ s) (length p) ≡ tab_at s 0
unfolding tab_at
tab_append p s =
    tab_path (ap (λ (k : ℕ). le_at (p ++ s) k 2) (sym (add-zero (length p))) ∙ le_at_append 2 p s 0) (le_at_append 2 p s 2) (le_at_append 2 p s 4) (le_at_append 2 p s 6)
    (le_at_append 2 p s 8)

tabs_read : (f : ℕ → Tab) (n m : ℕ) → 1 ≤ m → m ≤ n → Small (f m) → (r : List ℕ) → tabs_on (tabs_bytes f n ++ r) m ≡ f m
unfolding tabs_bytes
tabs_read f zero m h l s r = absurd (omega arith)
tabs_read f (suc n) m h l s r = go (ℕ_discrete m (suc n)) (λ k. tabs_read f n m h k s (tab_bytes (f (suc n)) ++ r))
  where
    regroup : (tabs_bytes f n ++ tab_bytes (f (suc n))) ++ r ≡ tabs_bytes f n ++ (tab_bytes (f (suc n)) ++ r)
    regroup = append_assoc (tabs_bytes f n) (tab_bytes (f (suc n))) r

    go : Dec (m ≡ suc n) → (m ≤ n → tabs_on (tabs_bytes f n ++ (tab_bytes (f (suc n)) ++ r)) m ≡ f m) → tabs_on ((tabs_bytes f n ++ tab_bytes (f (suc n))) ++ r) m ≡ f m
    go (yes e) ih =
        let k : tab_place m ≡ length (tabs_bytes f n) = omega (arith, length_tabs f n) in
        ap (λ (b : List ℕ). tabs_on b m) regroup
        ∙ ap (tab_at (tabs_bytes f n ++ (tab_bytes (f (suc n)) ++ r))) k
        ∙ tab_append (tabs_bytes f n) (tab_bytes (f (suc n)) ++ r)
        ∙ tab_reads (f (suc n)) (rw e at s) r ∙ ap f (sym e)
    go (no e) ih = ap (λ (b : List ℕ). tabs_on b m) regroup ∙ ih (omega arith)

-- A written page reads back as the same tabs, whatever lies behind it.
pub page_back : (f : ℕ → Tab) (rest : List ℕ) (m : ℕ) → 1 ≤ m → m ≤ most_participant → Small (f m) → tabs_on (page_bytes f ++ rest) m ≡ f m
page_back f rest m h l s = tabs_read f most_participant m h l s rest

-- Writing what was read

length_bytes : (w : ℕ) (s : List ℕ) (o : ℕ) → length (bytes_at s o w) ≡ w
unfolding bytes_at
length_bytes zero s o = refl
length_bytes (suc w) s o = ap suc (length_bytes w s (o + 1))

two_again : (s : List ℕ) → IsBytes s → (o : ℕ) → o + 2 ≤ length s → le_bytes 2 (le_at s o 2) ≡ take 2 (drop o s)
two_again s small o h =
    again 2 s o small ∙ sym (take_at (bytes_at s o 2) (drop (o + 2) s) 2 (length_bytes 2 s o)) ∙ ap (take 2) (sym (split 2 s o h))

tab_again : (s : List ℕ) → IsBytes s → (o : ℕ) → o + tab_size ≤ length s → tab_bytes (tab_at s o) ≡ take tab_size (drop o s)
unfolding tab_bytes tab_at
tab_again s small o h =
    cat
    (cat (cat (cat (two_again s small o (omega arith)) (two_again s small (o + 2) (omega arith))) (two_again s small (o + 4) (omega arith))) (two_again s small (o + 6) (omega arith)))
    (two_again s small (o + 8) (omega arith))
    ∙ sym (more 8 ∙ next 8 (more 6 ∙ next 6 (more 4 ∙ next 4 (more 2))))
  where
    more : (k : ℕ) → take (k + 2) (drop o s) ≡ take k (drop o s) ++ take 2 (drop (o + k) s)
    more k = take-add k 2 (drop o s) ∙ ap (λ (l : List ℕ). take k (drop o s) ++ take 2 l) (drop-drop k o s)

    next : (k : ℕ) {l : List ℕ} → take k (drop o s) ≡ l → take k (drop o s) ++ take 2 (drop (o + k) s) ≡ l ++ take 2 (drop (o + k) s)
    next k e = ap (λ (l : List ℕ). l ++ take 2 (drop (o + k) s)) e

tab_front : (s : List ℕ) (o : ℕ) → tab_at (take tab_size (drop o s)) 0 ≡ tab_at s o
unfolding tab_at
tab_front s o =
    tab_path
    (in_front 2 tab_size (drop o s) 0 (omega arith) ∙ le_at_drop 2 s o 0 ∙ ap (λ (k : ℕ). le_at s k 2) (add-zero o))
    (in_front 2 tab_size (drop o s) 2 (omega arith) ∙ le_at_drop 2 s o 2)
    (in_front 2 tab_size (drop o s) 4 (omega arith) ∙ le_at_drop 2 s o 4)
    (in_front 2 tab_size (drop o s) 6 (omega arith) ∙ le_at_drop 2 s o 6)
    (in_front 2 tab_size (drop o s) 8 (omega arith) ∙ le_at_drop 2 s o 8)

-- A page fits a book at a member exactly where the test says so.
pub fits_exact : (page : List ℕ) (cs : List Call) (m : ℕ) → IsBytes page → length cs ≤ most_keys → 1 ≤ m → (fits_at page cs m ≡ true) ↔ Fits page cs m
fits_exact page cs m small few h = (to, from)
  where
    to : fits_at page cs m ≡ true → Fits page cs m
    to e =
        let f = fits_is page cs m e in
        let l = f.0 in
        record { there = l; own = sym (tab_again page small (tab_place m) (omega arith)) ∙ ap tab_bytes f.1 }

    from : Fits page cs m → fits_at page cs m ≡ true
    from f =
        is_fits_lem page cs m f.there
        (sym (tab_front page (tab_place m)) ∙ ap (λ (b : List ℕ). tab_at b 0) (f.own ∙ sym (append-nil (tab_bytes (tabs_of cs m)))) ∙ tab_reads (tabs_of cs m) (tabs_small cs few m) [])
