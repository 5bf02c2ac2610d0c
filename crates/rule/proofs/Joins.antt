-- The join of two lists, key by key: what a key finds in it, that its keys rise, and how many they are. Assumes nothing.
use mathlib.Core.Path.{◌≡◌, refl, sym, ◌∙◌, ap}
use mathlib.Core.Logic.{◌⊎◌, inl, inr, ⊎_elim}
use mathlib.Core.List.Memᴰ.{cases_cons as in-cons}
use mathlib.Core.List.Memᴰ.{eq_of_singleton as eq-of-one}
use mathlib.Core.List.Memᴰ.{head as here}
use mathlib.Core.List.Memᴰ.{tail as there}
use mathlib.Core.List.{List, [], ◌∷◌, map, Memᴰ as In}
use mathlib.Core.Option.{Option, none, some}
use Prim.Native.Nat.{ℕ}
use native.Mathlib.Omega.{arith}
use lib.ListN.{length}
use Rattle.call.specs.declared.Call.{Call}
use Rattle.call.specs.Key.{call_key}
use Rattle.book.specs.Sound.{Rises}
use Rattle.rule.specs.Standing.{standing}
use Rattle.rule.specs.Keys.{record_of, different_keys}
use Rattle.rule.specs.Joined.{joined_at, joined_for, join_calls}
use Rattle.rule.proofs.Keyed.{find_in}
use Rattle.rule.proofs.Lattice.{stand_key}
use Rattle.rule.proofs.Different.{Keyed, Has, different_rise, in_different, different_in, at_find, at_rises, at_length, at_keys}

module _ (xs ys : List Call) where
  -- the joined record of a key is of that key
  joined_keyed : Keyed (joined_for xs ys)
  unfolding joined_for joined_at
  joined_keyed k c h = go (record_of k xs) (record_of k ys) refl refl h
    where
      go : (o p : Option Call) → record_of k xs ≡ o → record_of k ys ≡ p → joined_at o p ≡ some c → call_key c ≡ k
      go none none e f h = let z : ◌≡◌ {A = ℕ} 0 1 = cc in absurd (omega arith)
      go (some x) none e f h = (find_in k xs c (e ∙ h)).1
      go none (some y) e f h = (find_in k ys c (f ∙ h)).1
      go (some x) (some y) e f h =
          let g : standing x y ≡ c = cc in
          let l = (find_in k xs x e).1 in
          ap call_key (sym g) ∙ stand_key x y (l ∙ sym (find_in k ys y f).1) ∙ l

  -- each of the different keys has one, and no other key
  joined_some : (k : ℕ) → In k (different_keys (xs ∷ ys ∷ [])) → (c : Call) × (joined_for xs ys k ≡ some c)
  unfolding joined_for joined_at
  joined_some k i = go (record_of k xs) (record_of k ys) refl refl (different_in (xs ∷ ys ∷ []) k i)
    where
      go : (o p : Option Call) → record_of k xs ≡ o → record_of k ys ≡ p → (b : List Call) × In b (xs ∷ ys ∷ []) × Has k b → (c : Call) × (joined_at o p ≡ some c)
      go (some x) (some y) e f h = (standing x y, refl)
      go (some x) none e f h = (x, refl)
      go none (some y) e f h = (y, refl)
      go none none e f h =
          absurd (⊎_elim (λ (g : h.0 ≡ xs). empty (ap (record_of k) g ∙ e)) (λ j. empty (ap (record_of k) (eq-of-one j) ∙ f)) (in-cons h.1))
        where
          empty : record_of k h.0 ≡ none → ⊥
          empty g = let l = h.2.1 in let z : ◌≡◌ {A = ℕ} 0 1 = cc in omega arith

  or_none : (k : ℕ) → (joined_for xs ys k ≡ none) ⊎ In k (different_keys (xs ∷ ys ∷ []))
  unfolding joined_for joined_at
  or_none k = go (record_of k xs) (record_of k ys) refl refl
    where
      go : (o p : Option Call) → record_of k xs ≡ o → record_of k ys ≡ p → (joined_at o p ≡ none) ⊎ In k (different_keys (xs ∷ ys ∷ []))
      go none none e f = inl refl
      go (some x) p e f = inr (in_different (xs ∷ ys ∷ []) xs k (here refl) (x, e))
      go none (some y) e f = inr (in_different (xs ∷ ys ∷ []) ys k (there (here refl)) (y, f))

  pub join_find : (k : ℕ) → record_of k (join_calls xs ys) ≡ joined_at (record_of k xs) (record_of k ys)
  unfolding join_calls joined_for
  join_find k = at_find (joined_for xs ys) joined_keyed k (different_keys (xs ∷ ys ∷ [])) (or_none k)

  pub join_rises : Rises 0 (join_calls xs ys)
  unfolding join_calls
  join_rises = at_rises (joined_for xs ys) joined_keyed 0 (different_keys (xs ∷ ys ∷ [])) (different_rise (xs ∷ ys ∷ []))

  -- as many records as the lists have different keys
  pub join_length : length (join_calls xs ys) ≡ length (different_keys (xs ∷ ys ∷ []))
  unfolding join_calls
  join_length = at_length (joined_for xs ys) (different_keys (xs ∷ ys ∷ [])) joined_some

  -- whose keys they are
  pub join_keys : map call_key (join_calls xs ys) ≡ different_keys (xs ∷ ys ∷ [])
  unfolding join_calls
  join_keys = at_keys (joined_for xs ys) joined_keyed (different_keys (xs ∷ ys ∷ [])) joined_some
