-- Laws of the first bad number, and of one that holds somewhere below. Assumes nothing.
use mathlib.Core.Path.{◌≡◌, refl, sym, ◌∙◌}
use mathlib.Core.Bool.{Bool, true, false, cond, ◌||◌, true≢false}
use Prim.Native.Nat.{ℕ, zero, suc, ◌+◌, ◌≤◌, ◌<◌}
use native.Mathlib.Nat.{not-suc-le-zero, le_refl}
use native.Mathlib.Numerals.{add-one}
use native.Mathlib.Decide.{dec_le}
use native.Mathlib.Omega.{arith}
use lib.Dec.{eqb, ltb}
use borrow.Author.Tests.{eq-eqb, ne_eqb, lt-ltb, le-ltb, ltb-true, ltb-false, eqb-true, eqb-false}
use Rattle.score.specs.First.{first_nonzero, any_below}

module _ (v : ℕ → ℕ) where
  -- none so far, one more that is good, and the first that is not
  pub first_none : first_nonzero v 0 ≡ 0
  unfolding first_nonzero
  first_none = refl

  pub first_more : (n : ℕ) → first_nonzero v n ≡ n → v n ≡ 0 → first_nonzero v (n + 1) ≡ n + 1
  unfolding first_nonzero
  first_more n p q = rw add-one (simp (p, le-ltb n n (le_refl n), eq-eqb _ _ q))

  pub first_hit : (i n : ℕ) → i < n → first_nonzero v i ≡ i → (v i ≡ 0 → ⊥) → first_nonzero v n ≡ i
  unfolding first_nonzero
  first_hit i zero h p q = absurd (not-suc-le-zero h)
  first_hit i (suc n) h p q = go (dec_le n i) (λ l. first_hit i n l p q)
    where
      go : Dec (n ≤ i) → (i < n → first_nonzero v n ≡ i) → first_nonzero v (suc n) ≡ i
      go (yes l) ih = let e : n ≡ i = omega arith in rw e (simp (p, le-ltb i i (le_refl i), ne_eqb _ _ q))
      go (no l) ih = simp (ih (omega arith), lt-ltb i n (omega arith))

  pub first_le : (n : ℕ) → first_nonzero v n ≤ n
  unfolding first_nonzero
  first_le zero = omega arith
  first_le (suc n) = go (ltb (first_nonzero v n) n) (eqb (v n) 0) (first_le n)
    where
      go : (t u : Bool) → first_nonzero v n ≤ n → cond t (first_nonzero v n) (cond u (suc n) n) ≤ suc n
      go true u h = omega arith
      go false true h = omega arith
      go false false h = omega arith

  -- the first is bad
  pub first_bad_lem : (n : ℕ) → first_nonzero v n < n → v (first_nonzero v n) ≡ 0 → ⊥
  unfolding first_nonzero
  first_bad_lem zero l e = not-suc-le-zero l
  first_bad_lem (suc n) l e = go (ltb (first_nonzero v n) n) refl (eqb (v n) 0) refl (first_bad_lem n) l e
    where
      go : (t : Bool) → ltb (first_nonzero v n) n ≡ t → (u : Bool) → eqb (v n) 0 ≡ u → (first_nonzero v n < n → v (first_nonzero v n) ≡ 0 → ⊥)
          → cond t (first_nonzero v n) (cond u (suc n) n) < suc n → v (cond t (first_nonzero v n) (cond u (suc n) n)) ≡ 0 → ⊥
      go true p u q ih l e = ih (ltb-true _ _ p) e
      go false p true q ih l e = omega arith
      go false p false q ih l e = eqb-false _ _ q e

  -- and none before it is
  pub first_before : (n i : ℕ) → i < first_nonzero v n → v i ≡ 0
  unfolding first_nonzero
  first_before zero i l = absurd (not-suc-le-zero l)
  first_before (suc n) i l = go (ltb (first_nonzero v n) n) refl (eqb (v n) 0) refl (first_before n i) l
    where
      full : ltb (first_nonzero v n) n ≡ false → first_nonzero v n ≡ n
      full p = omega (arith, ltb-false (first_nonzero v n) n p, first_le n)

      go : (t : Bool) → ltb (first_nonzero v n) n ≡ t → (u : Bool) → eqb (v n) 0 ≡ u → (i < first_nonzero v n → v i ≡ 0) → i < cond t (first_nonzero v n) (cond u (suc n) n) → v i ≡ 0
      go true p u q ih l = ih l
      go false p false q ih l = ih (omega (arith, full p))
      go false p true q ih l = last (dec_le n i)
        where
          last : Dec (n ≤ i) → v i ≡ 0
          last (yes m) = let e : i ≡ n = omega arith in rw e (eqb-true _ _ q)
          last (no m) = ih (omega (arith, full p))

  -- where none is found, each is good; and the other way round
  pub first_all : (n : ℕ) → first_nonzero v n ≡ n → (i : ℕ) → i < n → v i ≡ 0
  first_all n h i l = first_before n i (omega arith)

  pub first_of_all : (n : ℕ) → ((i : ℕ) → i < n → v i ≡ 0) → first_nonzero v n ≡ n
  first_of_all zero h = first_none
  first_of_all (suc n) h =
      let e : suc n ≡ n + 1 = omega arith in
      rw e (first_more n (first_of_all n (λ i l. h i (omega arith))) (h n (omega arith)))

  pub first_again : (n : ℕ) → first_nonzero v (first_nonzero v n) ≡ first_nonzero v n
  first_again n = first_of_all (first_nonzero v n) (first_before n)

or_true : (t : Bool) → (t || true) ≡ true
or_true true = refl
or_true false = refl

pub or_false : (t u : Bool) → (t || u) ≡ false → (t ≡ false) × (u ≡ false)
or_false true u h = absurd (true≢false h)
or_false false u h = (refl, h)

module _ (f : ℕ → Bool) where
  pub any_none : any_below f 0 ≡ false
  unfolding any_below
  any_none = refl

  pub any_suc : (n : ℕ) → any_below f (suc n) ≡ (any_below f n || f n)
  unfolding any_below
  any_suc n = refl

  pub any_more : (n : ℕ) → any_below f n ≡ false → f n ≡ false → any_below f (n + 1) ≡ false
  any_more n p q = rw (add-one, any_suc n, p) q

  -- what holds at j holds somewhere below any n above j
  pub any_hit : (j n : ℕ) → j < n → f j ≡ true → any_below f n ≡ true
  any_hit j zero h e = absurd (not-suc-le-zero h)
  any_hit j (suc n) h e = go (dec_le n j) (λ l. any_hit j n l e)
    where
      go : Dec (n ≤ j) → (j < n → any_below f n ≡ true) → any_below f (suc n) ≡ true
      go (yes p) ih = let q : n ≡ j = omega arith in any_suc n ∙ rw (q, e) (or_true (any_below f j))
      go (no p) ih = any_suc n ∙ rw (ih (omega arith)) refl

  pub any_zero : (n : ℕ) → ((j : ℕ) → j < n → f j ≡ false) → any_below f n ≡ false
  any_zero zero h = any_none
  any_zero (suc n) h = any_suc n ∙ rw (any_zero n (λ j l. h j (omega arith))) (h n (omega arith))

  -- what holds nowhere below holds at none below
  pub any_not : (n : ℕ) → any_below f n ≡ false → (j : ℕ) → j < n → f j ≡ false
  any_not zero h j l = absurd (not-suc-le-zero l)
  any_not (suc n) h j l = go (dec_le n j) (or_false (any_below f n) (f n) (sym (any_suc n) ∙ h)) (λ p m. any_not n p j m)
    where
      go : Dec (n ≤ j) → (any_below f n ≡ false) × (f n ≡ false) → (any_below f n ≡ false → j < n → f j ≡ false) → f j ≡ false
      go (yes p) h ih = let q : j ≡ n = omega arith in rw q h.1
      go (no p) h ih = ih h.0 (omega arith)

  pub any_less : (i j : ℕ) → i ≤ j → any_below f j ≡ false → any_below f i ≡ false
  any_less i j l h = any_zero i (λ k m. any_not j h k (omega arith))
