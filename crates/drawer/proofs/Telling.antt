-- What is told, record by record. Assumes nothing.
use mathlib.Core.Path.{◌≡◌, refl, sym, ◌∙◌, ap, subst}
use mathlib.Core.Bool.{Bool, true, false, true≢false}
use mathlib.Core.Logic.{⊎_elim}
use mathlib.Core.List.Memᴰ.{cases_cons as in-cons}
use mathlib.Core.List.Memᴰ.{head as here}
use mathlib.Core.List.Memᴰ.{not-nil as in-nil}
use mathlib.Core.List.Memᴰ.{tail as there}
use mathlib.Core.List.{List, [], ◌∷◌, Memᴰ as In}
use Prim.Native.Nat.{ℕ, zero, suc, ◌+◌, ◌-◌, ◌<◌, ◌≤◌}
use native.Mathlib.Decide.{ℕ_discrete}
use native.Mathlib.Omega.{arith}
use Rattle.drawer.specs.Told.{told_from}

module _ {A : Type 0} (listed : ℕ → Bool) (told : ℕ → A) (n : ℕ) where
  -- from record i on
  abbrev from : ℕ → List A
  from i = told_from listed told i (n - i)

  -- Record i is listed, or not; and behind the last one

  pub told_hit : (i : ℕ) → i < n → listed i ≡ true → from i ≡ told i ∷ from (i + 1)
  unfolding told_from
  told_hit i l e =
      let h : n - i ≡ suc (n - (i + 1)) = omega arith in
      let s : i + 1 ≡ suc i = omega arith in
      rw (h, e, s) refl

  pub told_miss : (i : ℕ) → i < n → listed i ≡ false → from (i + 1) ≡ from i
  unfolding told_from
  told_miss i l e =
      let h : n - i ≡ suc (n - (i + 1)) = omega arith in
      let s : i + 1 ≡ suc i = omega arith in
      rw (h, e, s) refl

  pub told_end : (i : ℕ) → n ≤ i → from i ≡ []
  unfolding told_from
  told_end i l = let h : n - i ≡ 0 = omega arith in rw h refl

  -- x is what is told of record k, from record i on, and it is listed
  pub record Tells (i : ℕ) (x : A) : Type 0 where
    pub k : ℕ
    pub low : i ≤ k
    pub high : k < n
    pub is_listed_lem : listed k ≡ true
    pub is : x ≡ told k

  -- Told is what is listed, and that only

  into : (left i : ℕ) → n - i ≡ left → (x : A) → In x (from i) → Tells i x
  into zero i e x m = absurd (in-nil (subst (λ (l : List A). In x l) (told_end i (omega arith)) m))
  into (suc left) i e x m = go (into left (i + 1) (omega arith) x) (listed i) refl
    where
      go : (In x (from (i + 1)) → Tells (i + 1) x) → (t : Bool) → listed i ≡ t → Tells i x
      go ih true f =
          ⊎_elim (λ (h : x ≡ told i). record { k = i; low = omega arith; high = omega arith; is_listed_lem = f; is = h })
          (λ j. let r = ih j in record { k = r.k; low = omega (arith, r.low); high = r.high; is_listed_lem = r.is_listed_lem; is = r.is })
          (in-cons (subst (λ (l : List A). In x l) (told_hit i (omega arith) f) m))
      go ih false f =
          let r = ih (subst (λ (l : List A). In x l) (sym (told_miss i (omega arith) f)) m) in
          record { k = r.k; low = omega (arith, r.low); high = r.high; is_listed_lem = r.is_listed_lem; is = r.is }

  pub told_in : (i : ℕ) (x : A) → In x (from i) → Tells i x
  told_in i x m = into (n - i) i refl x m

  outof : (left i : ℕ) → n - i ≡ left → (k : ℕ) → i ≤ k → k < n → listed k ≡ true → In (told k) (from i)
  outof zero i e k l h f = absurd (omega arith)
  outof (suc left) i e k l h f = go (ℕ_discrete k i) (λ p. outof left (i + 1) (omega arith) k p h f) (listed i) refl
    where
      go : Dec (k ≡ i) → (i + 1 ≤ k → In (told k) (from (i + 1))) → (t : Bool) → listed i ≡ t → In (told k) (from i)
      go (yes d) ih t g = subst (λ (l : List A). In (told k) l) (sym (told_hit i (omega arith) (ap listed (sym d) ∙ f))) (here (ap told d))
      go (no d) ih true g = subst (λ (l : List A). In (told k) l) (sym (told_hit i (omega arith) g)) (there (ih (omega arith)))
      go (no d) ih false g = subst (λ (l : List A). In (told k) l) (told_miss i (omega arith) g) (ih (omega arith))

  pub in_told : (i k : ℕ) → i ≤ k → k < n → listed k ≡ true → In (told k) (from i)
  in_told i k l h f = outof (n - i) i refl k l h f

  -- Nothing is told exactly where nothing is listed

  pub none_listed : (i : ℕ) → from i ≡ [] → (k : ℕ) → i ≤ k → k < n → listed k ≡ false
  none_listed i e k l h = go (listed k) refl
    where
      go : (t : Bool) → listed k ≡ t → listed k ≡ false
      go true f = absurd (in-nil (subst (λ (l : List A). In (told k) l) e (in_told i k l h f)))
      go false f = f

  pub none_told : (i : ℕ) → ((k : ℕ) → i ≤ k → k < n → listed k ≡ false) → from i ≡ []
  none_told i h = go (from i) refl
    where
      go : (xs : List A) → from i ≡ xs → xs ≡ []
      go [] e = refl
      go (x ∷ xs) e =
          let r = told_in i x (subst (λ (l : List A). In x l) (sym e) (here refl)) in
          absurd (true≢false (sym r.is_listed_lem ∙ h r.k r.low r.high))

  -- The first that is told: none before it is listed, and what is told behind it is told from the next record on

  pub record Walks (i : ℕ) (x : A) (xs : List A) : Type 0 where
    pub first : Tells i x
    pub before : (j : ℕ) → i ≤ j → j < first.k → listed j ≡ false
    pub behind : xs ≡ from (first.k + 1)

  walk : (left i : ℕ) → n - i ≡ left → (x : A) (xs : List A) → from i ≡ x ∷ xs → Walks i x xs
  walk zero i e x xs d = absurd (let f = told_end i (omega arith) in let z : ◌≡◌ {A = ℕ} 0 1 = cc in omega arith)
  walk (suc left) i e x xs d = go (walk left (i + 1) (omega arith) x xs) (listed i) refl
    where
      go : (from (i + 1) ≡ x ∷ xs → Walks (i + 1) x xs) → (t : Bool) → listed i ≡ t → Walks i x xs
      go ih true f =
          let p : told i ∷ from (i + 1) ≡ x ∷ xs = sym (told_hit i (omega arith) f) ∙ d in
          let q : x ≡ told i = cc in
          let r : xs ≡ from (i + 1) = cc in
          record {
            first = record { k = i; low = omega arith; high = omega arith; is_listed_lem = f; is = q };
            before = λ j l h. absurd (omega arith);
            behind = r;
          }
      go ih false f =
          let w = ih (told_miss i (omega arith) f ∙ d) in
          let r = w.first in
          record {
            first = record { k = r.k; low = omega (arith, r.low); high = r.high; is_listed_lem = r.is_listed_lem; is = r.is };
            before = λ j l h. at_i w j l h (ℕ_discrete j i) f;
            behind = w.behind;
          }
        where
          at_i : (w : Walks (i + 1) x xs) (j : ℕ) → i ≤ j → j < w.first.k → Dec (j ≡ i) → listed i ≡ false → listed j ≡ false
          at_i w j l h (yes g) f = ap listed g ∙ f
          at_i w j l h (no g) f = w.before j (omega arith) h

  pub walk_on : (i : ℕ) (x : A) (xs : List A) → from i ≡ x ∷ xs → Walks i x xs
  walk_on i x xs d = walk (n - i) i refl x xs d
