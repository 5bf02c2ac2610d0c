-- The counts of a page, one more and one less. Assumes nothing.
use mathlib.Core.Path.{◌≡◌, refl, sym, ◌∙◌, ap, ap₂}
use mathlib.Core.Bool.{cond}
use mathlib.Core.Logic.{inl, inr}
use mathlib.Core.List.{List}
use Prim.Native.Nat.{ℕ, ◌+◌, ◌-◌, ◌<◌, ◌≤◌}
use native.Mathlib.Omega.{arith}
use native.Mathlib.Decide.{ℕ_discrete}
use lib.Dec.{eqb}
use lib.ListN.{length, drop}
use borrow.Author.Tests.{eq-eqb, ne_eqb}
use Rattle.le.specs.Le.{le_at, le_bytes, Stores}
use Rattle.le.proofs.Laws.{length_le_bytes}
use Rattle.rule.proofs.Keyed.{Three, three}
use Rattle.tabs.specs.Tabs.{page_size}
use Rattle.tabs.specs.Inner.{state_place, Counted, count_on, hit, nowhere, Recounted}
use Rattle.tabs.proofs.Stored.{Beside, beside, number_on, drop_beside}
use Rattle.tabs.proofs.Pages.{length_stored}

-- where a call is counted
module _ (n t m s : ℕ) where
  pub hit_own : n ≡ m → hit n t m s ≡ cond (eqb t s) 1 0
  unfolding hit
  hit_own e = simp (eq-eqb n m e)

  pub hit_there : n ≡ m → t ≡ s → hit n t m s ≡ 1
  unfolding hit
  hit_there e f = simp (eq-eqb n m e, eq-eqb t s f)

  hit_state : (t ≡ s → ⊥) → n ≡ m → hit n t m s ≡ 0
  unfolding hit
  hit_state f e = simp (eq-eqb n m e, ne_eqb t s f)

  pub hit_other : (n ≡ m → ⊥) → hit n t m s ≡ 0
  unfolding hit
  hit_other e = simp (ne_eqb n m e)

pub no_hit : (m s : ℕ) → nowhere m s ≡ 0
unfolding nowhere
no_hit m s = refl

-- two counts lie beside each other
apart_members : (m s n t : ℕ) → Counted m s → Counted n t → (n ≡ m → ⊥) → Beside (state_place m s) 2 (state_place n t) 2
apart_members m s n t c d h = go (three n m)
  where
    go : Three n m → Beside (state_place m s) 2 (state_place n t) 2
    go (inl l) = let p = c.member in let q = d.member in let x = c.state in let y = d.state in inr (omega arith)
    go (inr (inl e)) = absurd (h e)
    go (inr (inr l)) = let p = c.member in let q = d.member in let x = c.state in let y = d.state in inl (omega arith)

apart_states : (m s n t : ℕ) → n ≡ m → (t ≡ s → ⊥) → Beside (state_place m s) 2 (state_place n t) 2
apart_states m s n t e h = go (three t s)
  where
    go : Three t s → Beside (state_place m s) 2 (state_place n t) 2
    go (inl l) = inr (omega arith)
    go (inr (inl f)) = absurd (h f)
    go (inr (inr l)) = inl (omega arith)

module _ {page after : List ℕ} {n t v : ℕ} (long : page_size ≤ length page) (d : Counted n t) (fits : v < 65536) (st : Stores page (state_place n t) (le_bytes 2 v) after) where
  within : state_place n t + 2 ≤ page_size
  within = let p = d.member in let q = d.state in omega arith

  stored_there : count_on after n t ≡ v
  stored_there = ap (λ (l : List ℕ). le_at l (state_place n t) 2) st.is ∙ number_on 2 v page (state_place n t) fits (omega (arith, within))

  stored_beside : (m s : ℕ) → Beside (state_place m s) 2 (state_place n t) 2 → count_on after m s ≡ count_on page m s
  stored_beside m s b =
      ap (λ (l : List ℕ). le_at l (state_place m s) 2) st.is
      ∙ beside 2 (le_bytes 2 v) page (state_place n t) (state_place m s) (rw (length_le_bytes 2 v) b)

  recount : (less more : ℕ → ℕ → ℕ) → v + less n t ≡ count_on page n t + more n t
      → ((m s : ℕ) → (n ≡ m → t ≡ s → ⊥) → less m s ≡ more m s) → Recounted page less more after
  recount less more e f =
      record {
        counts = λ m s c. go m s c (ℕ_discrete n m) (ℕ_discrete t s);
        behind =
            ap (drop page_size) st.is
            ∙ drop_beside (le_bytes 2 v) page (state_place n t) page_size (omega (arith, within, length_le_bytes 2 v));
        long = length_stored st;
      }
    where
      go : (m s : ℕ) → Counted m s → Dec (n ≡ m) → Dec (t ≡ s) → count_on after m s + less m s ≡ count_on page m s + more m s
      go m s c (yes p) (yes q) = rw (sym p, sym q) (ap (λ (k : ℕ). k + less n t) stored_there ∙ e)
      go m s c (yes p) (no q) = ap₂ ◌+◌ (stored_beside m s (apart_states m s n t p q)) (f m s (λ x y. q y))
      go m s c (no p) q = ap₂ ◌+◌ (stored_beside m s (apart_members m s n t c d p)) (f m s (λ x y. p x))

missed : (n t m s : ℕ) → (n ≡ m → t ≡ s → ⊥) → hit n t m s ≡ 0
missed n t m s h = go (ℕ_discrete n m) (ℕ_discrete t s)
  where
    go : Dec (n ≡ m) → Dec (t ≡ s) → hit n t m s ≡ 0
    go (yes p) (yes q) = absurd (h p q)
    go (yes p) (no q) = hit_state n t m s q p
    go (no p) q = hit_other n t m s p

module _ {page after : List ℕ} {n t v : ℕ} (long : page_size ≤ length page) (d : Counted n t) (st : Stores page (state_place n t) (le_bytes 2 v) after) where
  pub one_more : count_on page n t < 65535 → v ≡ count_on page n t + 1 → Recounted page nowhere (hit n t) after
  one_more h e =
      recount long d (omega arith) st nowhere (hit n t) (omega (arith, no_hit n t, hit_there n t n t refl refl))
      (λ m s k. no_hit m s ∙ sym (missed n t m s k))

  pub one_less : count_on page n t < 65536 → 1 ≤ count_on page n t → v ≡ count_on page n t - 1 → Recounted page (hit n t) nowhere after
  one_less f h e =
      recount long d (omega arith) st (hit n t) nowhere (omega (arith, no_hit n t, hit_there n t n t refl refl))
      (λ m s k. missed n t m s k ∙ sym (no_hit m s))

-- one less and one more
pub both_counted : {page mid after : List ℕ} {less more : ℕ → ℕ → ℕ} → Recounted page less nowhere mid → Recounted mid nowhere more after → Recounted page less more after
both_counted {less = less} {more = more} f g =
    record {
      counts = λ m s c. omega (arith, f.counts m s c, g.counts m s c, no_hit m s);
      behind = g.behind ∙ f.behind;
      long = g.long ∙ f.long;
    }

-- where a call stays in its state
pub none_counted : (page : List ℕ) (n t u : ℕ) → t ≡ u → Recounted page (hit n t) (hit n u) page
none_counted page n t u e = record { counts = λ m s c. ap (λ (k : ℕ). count_on page m s + hit n k m s) e; behind = refl; long = refl }
