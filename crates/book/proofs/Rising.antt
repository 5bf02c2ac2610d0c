-- Calls whose keys rise: one call to a key, the list without it and with one more, and a list that is given by its members. Assumes nothing.
use mathlib.Core.Path.{◌≡◌, refl, sym, ◌∙◌, ap}
use mathlib.Core.Bool.{cond}
use mathlib.Core.Logic.{◌⊎◌, inl, inr, ⊎_elim, ◌↔◌}
use mathlib.Core.List.Memᴰ.{cases_cons as in-cons}
use mathlib.Core.List.Memᴰ.{head as here}
use mathlib.Core.List.Memᴰ.{not-nil as in-nil}
use mathlib.Core.List.Memᴰ.{tail as there}
use mathlib.Core.List.{List, [], ◌∷◌, Memᴰ as In}
use Prim.Native.Nat.{ℕ, suc, ◌≤◌, ◌<◌}
use native.Mathlib.Nat.{le_refl}
use native.Mathlib.Decide.{dec_lt, ℕ_discrete}
use native.Mathlib.Omega.{arith}
use lib.Dec.{ltb}
use lib.ListN.{length}
use borrow.Author.Tests.{lt-ltb, le-ltb}
use Rattle.call.specs.declared.Call.{Call}
use Rattle.call.specs.Key.{call_key}
use Rattle.call.specs.Service.{CallWithin}
use Rattle.book.specs.Sound.{CallsWithin, Rises}
use Rattle.book.specs.Without.{without}
use Rattle.book.proofs.Without.{without_hit, without_miss, without_rises}

-- Rising lists of anything that has a key

module _ {A : Type 0} (key : A → ℕ) where
  abbrev pub Rising : ℕ → List A → Type 0
  Rising n [] = Unit {0}
  Rising n (x ∷ xs) = (n ≤ key x) × Rising (suc (key x)) xs

  pub in_above : (n : ℕ) (xs : List A) (a : A) → Rising n xs → In a xs → n ≤ key a
  in_above n [] a r m = absurd (in-nil m)
  in_above n (x ∷ xs) a r m =
      let q = r.0 in
      ⊎_elim (λ (e : a ≡ x). omega (arith, ap key e)) (λ i. let h = in_above (suc (key x)) xs a r.1 i in omega arith) (in-cons m)

  abbrev pub Same : List A → List A → Type 0
  Same xs ys = (a : A) → (In a xs → In a ys) × (In a ys → In a xs)

  half : (n : ℕ) (x y : A) (ys : List A) → Rising n (y ∷ ys) → In x (y ∷ ys) → (x ≡ y) ⊎ (key y < key x)
  half n x y ys r m = ⊎_elim inl (λ i. inr (in_above (suc (key y)) ys x r.1 i)) (in-cons m)

  heads : (x y : A) → (x ≡ y) ⊎ (key y < key x) → (y ≡ x) ⊎ (key x < key y) → x ≡ y
  heads x y (inl e) q = e
  heads x y (inr h) (inl e) = sym e
  heads x y (inr h) (inr g) = absurd (omega arith)

  tails : (n m : ℕ) (x y : A) (xs ys : List A) → Rising n (x ∷ xs) → x ≡ y
      → ((a : A) → In a (x ∷ xs) → In a (y ∷ ys)) → (a : A) → In a xs → In a ys
  tails n m x y xs ys r e s a i =
      ⊎_elim (λ (f : a ≡ y). let h = in_above (suc (key x)) xs a r.1 i in absurd (omega (arith, ap key e, ap key f)))
      (λ j. j) (in-cons (s a (there i)))

  -- two rising lists with the same members are one list
  pub ext_in : (n m : ℕ) (xs ys : List A) → Rising n xs → Rising m ys → Same xs ys → xs ≡ ys
  ext_in n m [] [] r s h = refl
  ext_in n m [] (y ∷ ys) r s h = absurd (in-nil ((h y).1 (here refl)))
  ext_in n m (x ∷ xs) [] r s h = absurd (in-nil ((h x).0 (here refl)))
  ext_in n m (x ∷ xs) (y ∷ ys) r s h =
      let e : x ≡ y = heads x y (half m x y ys s ((h x).0 (here refl))) (half n y x xs r ((h y).1 (here refl))) in
      let t : xs ≡ ys =
      ext_in (suc (key x)) (suc (key y)) xs ys r.1 s.1
      (λ a. (tails n m x y xs ys r e (λ b. (h b).0) a, tails m n y x ys xs s (sym e) (λ b. (h b).1) a)) in
      cc

-- Calls

pub rising : (n : ℕ) (cs : List Call) → Rises n cs → Rising call_key n cs
rising n [] r = tt
rising n (c ∷ cs) r = (r.0, rising (suc (call_key c)) cs r.1)

pub weaken : (m n : ℕ) (cs : List Call) → m ≤ n → Rises n cs → Rises m cs
weaken m n [] h r = tt
weaken m n (c ∷ cs) h r = (let q = r.0 in omega arith, r.1)

pub call_above : (n : ℕ) (cs : List Call) (c : Call) → Rises n cs → In c cs → n ≤ call_key c
call_above n cs c r i = in_above call_key n cs c (rising n cs r) i

pub within_in : (m : ℕ) (cs : List Call) (c : Call) → CallsWithin m cs → In c cs → CallWithin m c
within_in m [] c w i = absurd (in-nil i)
within_in m (d ∷ cs) c w i = ⊎_elim (λ (e : c ≡ d). rw e w.0) (λ j. within_in m cs c w.1 j) (in-cons i)

-- a key has one call
pub one_key : (n : ℕ) (cs : List Call) (x y : Call) → Rises n cs → In x cs → In y cs → call_key x ≡ call_key y → x ≡ y
one_key n [] x y r i j k = absurd (in-nil i)
one_key n (c ∷ cs) x y r i j k = go (in-cons i) (in-cons j) (λ s t. one_key (suc (call_key c)) cs x y r.1 s t k)
  where
    go : (x ≡ c) ⊎ In x cs → (y ≡ c) ⊎ In y cs → (In x cs → In y cs → x ≡ y) → x ≡ y
    go (inl e) (inl f) ih = e ∙ sym f
    go (inl e) (inr t) ih = let h = call_above (suc (call_key c)) cs y r.1 t in absurd (omega (arith, ap call_key e))
    go (inr s) (inl f) ih = let h = call_above (suc (call_key c)) cs x r.1 s in absurd (omega (arith, ap call_key f))
    go (inr s) (inr t) ih = ih s t

-- two rising lists of calls with the same members are one list
pub same_members : (n m : ℕ) (xs ys : List Call) → Rises n xs → Rises m ys → ((c : Call) → In c xs ↔ In c ys) → xs ≡ ys
same_members n m xs ys r s h = ext_in call_key n m xs ys (rising n xs r) (rising m ys s) h

-- Without the call of a key

pub in_without : (k : ℕ) (cs : List Call) (x : Call) → In x (without k cs) ↔ (In x cs × (call_key x ≡ k → ⊥))
unfolding without
in_without k cs x = (to cs, λ h. from cs h.0 h.1)
  where
    to : (cs : List Call) → In x (without k cs) → In x cs × (call_key x ≡ k → ⊥)
    to [] i = absurd (in-nil i)
    to (c ∷ cs) i = go (to cs) (ℕ_discrete (call_key c) k)
      where
        go : (In x (without k cs) → In x cs × (call_key x ≡ k → ⊥)) → Dec (call_key c ≡ k) → In x (c ∷ cs) × (call_key x ≡ k → ⊥)
        go ih (yes e) = let h = ih (rw (without_hit k c cs e) at i) in (there h.0, h.1)
        go ih (no e) = ⊎_elim (λ (f : x ≡ c). (here f, λ g. e (sym (ap call_key f) ∙ g))) (λ j. let h = ih j in (there h.0, h.1)) (in-cons (rw (without_miss k c cs e) at i))

    from : (cs : List Call) → In x cs → (call_key x ≡ k → ⊥) → In x (without k cs)
    from [] i n = absurd (in-nil i)
    from (c ∷ cs) i n = go (λ j. from cs j n) (ℕ_discrete (call_key c) k) (in-cons i)
      where
        go : (In x cs → In x (without k cs)) → Dec (call_key c ≡ k) → (x ≡ c) ⊎ In x cs → In x (without k (c ∷ cs))
        go ih (yes e) (inl f) = absurd (n (ap call_key f ∙ e))
        go ih (yes e) (inr j) = rw (without_hit k c cs e) (ih j)
        go ih (no e) (inl f) = rw (without_miss k c cs e) (here f)
        go ih (no e) (inr j) = rw (without_miss k c cs e) (there (ih j))

-- With one call more, at its place

unfoldable pub placed : Call → List Call → List Call
placed x [] = x ∷ []
placed x (c ∷ cs) = cond (ltb (call_key x) (call_key c)) (x ∷ c ∷ cs) (c ∷ placed x cs)

module _ (x : Call) where
  pub placed_here : (c : Call) (cs : List Call) → call_key x < call_key c → placed x (c ∷ cs) ≡ x ∷ c ∷ cs
  unfolding placed
  placed_here c cs l = simp (lt-ltb (call_key x) (call_key c) l)

  pub placed_behind : (c : Call) (cs : List Call) → call_key c ≤ call_key x → placed x (c ∷ cs) ≡ c ∷ placed x cs
  unfolding placed
  placed_behind c cs l = simp (le-ltb (call_key x) (call_key c) l)

  pub in_placed : (cs : List Call) (y : Call) → In y (placed x cs) ↔ ((y ≡ x) ⊎ In y cs)
  unfolding placed
  in_placed cs y = (to cs, from cs)
    where
      to : (cs : List Call) → In y (placed x cs) → (y ≡ x) ⊎ In y cs
      to [] i = in-cons i
      to (c ∷ cs) i = go (to cs) (dec_lt (call_key x) (call_key c))
        where
          go : (In y (placed x cs) → (y ≡ x) ⊎ In y cs) → Dec (call_key x < call_key c) → (y ≡ x) ⊎ In y (c ∷ cs)
          go ih (yes l) = in-cons (rw (placed_here c cs l) at i)
          go ih (no l) = ⊎_elim (λ (e : y ≡ c). inr (here e)) (λ j. ⊎_elim inl (λ k. inr (there k)) (ih j)) (in-cons (rw (placed_behind c cs (omega arith)) at i))

      from : (cs : List Call) → (y ≡ x) ⊎ In y cs → In y (placed x cs)
      from [] h = ⊎_elim (λ (e : y ≡ x). here e) (λ j. absurd (in-nil j)) h
      from (c ∷ cs) h = go (from cs) (dec_lt (call_key x) (call_key c)) h
        where
          go : ((y ≡ x) ⊎ In y cs → In y (placed x cs)) → Dec (call_key x < call_key c) → (y ≡ x) ⊎ In y (c ∷ cs) → In y (placed x (c ∷ cs))
          go ih (yes l) (inl e) = rw (placed_here c cs l) (here e)
          go ih (yes l) (inr j) = rw (placed_here c cs l) (there j)
          go ih (no l) (inl e) = rw (placed_behind c cs (omega arith)) (there (ih (inl e)))
          go ih (no l) (inr j) = rw (placed_behind c cs (omega arith)) (⊎_elim (λ (e : y ≡ c). here e) (λ k. there (ih (inr k))) (in-cons j))

  pub placed_within : (m : ℕ) (cs : List Call) → CallWithin m x → CallsWithin m cs → CallsWithin m (placed x cs)
  unfolding placed
  placed_within m [] v w = (v, tt)
  placed_within m (c ∷ cs) v w = go (placed_within m cs v w.1) (dec_lt (call_key x) (call_key c))
    where
      go : CallsWithin m (placed x cs) → Dec (call_key x < call_key c) → CallsWithin m (placed x (c ∷ cs))
      go ih (yes l) = rw (placed_here c cs l) (v, w)
      go ih (no l) = rw (placed_behind c cs (omega arith)) (w.0, ih)

  -- keys rise where the key is none of them
  pub placed_rises : (n : ℕ) (cs : List Call) → n ≤ call_key x → ((y : Call) → In y cs → call_key y ≡ call_key x → ⊥) → Rises n cs → Rises n (placed x cs)
  unfolding placed
  placed_rises n [] l f r = (l, tt)
  placed_rises n (c ∷ cs) l f r = go (λ h. placed_rises (suc (call_key c)) cs h (λ y j. f y (there j)) r.1) (dec_lt (call_key x) (call_key c))
    where
      go : (suc (call_key c) ≤ call_key x → Rises (suc (call_key c)) (placed x cs)) → Dec (call_key x < call_key c) → Rises n (placed x (c ∷ cs))
      go ih (yes h) = rw (placed_here c cs h) (l, (h, r.1))
      go ih (no h) = let d : call_key c ≡ call_key x → ⊥ = f c (here refl) in rw (placed_behind c cs (omega arith)) (r.0, ih (omega arith))

  pub placed_length : (cs : List Call) → length (placed x cs) ≡ suc (length cs)
  unfolding placed
  placed_length [] = refl
  placed_length (c ∷ cs) = go (placed_length cs) (dec_lt (call_key x) (call_key c))
    where
      go : length (placed x cs) ≡ suc (length cs) → Dec (call_key x < call_key c) → length (placed x (c ∷ cs)) ≡ suc (length (c ∷ cs))
      go ih (yes l) = rw (placed_here c cs l) refl
      go ih (no l) = rw (placed_behind c cs (omega arith)) (ap suc ih)

  -- a list without one of its calls, with that call at its place again
  pub placed_again : (n : ℕ) (cs : List Call) → Rises n cs → In x cs → cs ≡ placed x (without (call_key x) cs)
  placed_again n cs r i =
      same_members n n cs (placed x (without (call_key x) cs)) r
      (placed_rises n (without (call_key x) cs) (call_above n cs x r i) (λ y j. ((in_without (call_key x) cs y).0 j).1) (without_rises (call_key x) n n cs (le_refl n) r))
      (λ a. (λ j. (in_placed (without (call_key x) cs) a).1 (to a j (ℕ_discrete (call_key a) (call_key x))), λ j. from a ((in_placed (without (call_key x) cs) a).0 j)))
    where
      to : (a : Call) → In a cs → Dec (call_key a ≡ call_key x) → (a ≡ x) ⊎ In a (without (call_key x) cs)
      to a j (yes e) = inl (one_key n cs a x r j i e)
      to a j (no e) = inr ((in_without (call_key x) cs a).1 (j, e))

      from : (a : Call) → (a ≡ x) ⊎ In a (without (call_key x) cs) → In a cs
      from a (inl e) = rw e i
      from a (inr j) = ((in_without (call_key x) cs a).0 j).0
