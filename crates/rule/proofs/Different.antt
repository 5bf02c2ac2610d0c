-- The different keys of books, and a record for each of them. Assumes nothing.
use mathlib.Core.Path.{◌≡◌, refl, sym, ◌∙◌, ap, ap₂, subst}
use mathlib.Core.Logic.{◌⊎◌, inl, inr, ⊎_elim}
use mathlib.Core.List.Memᴰ.{cases_cons as in-cons}
use mathlib.Core.List.Memᴰ.{head as here}
use mathlib.Core.List.Memᴰ.{not-nil as in-nil}
use mathlib.Core.List.Memᴰ.{tail as there}
use mathlib.Core.List.{List, [], ◌∷◌, map, Memᴰ as In}
use mathlib.Core.Option.{Option, none, some}
use Prim.Native.Nat.{ℕ, zero, suc, ◌≤◌, ◌<◌}
use native.Mathlib.Omega.{arith}
use native.Mathlib.Decide.{ℕ_discrete}
use lib.ListN.{length, take, drop}
use borrow.Author.Tests.{le-ltb, lt-ltb}
use Rattle.call.specs.declared.Call.{Call}
use Rattle.call.specs.Key.{call_key}
use Rattle.book.specs.Sound.{Rises}
use Rattle.rule.specs.Keys.{record_of, also, put, put_all, different_keys, records_at}
use Rattle.rule.proofs.Keyed.{Three, three, Rising, in_above, weaken, find_hit, find_miss, find_below}

pub self : ℕ → ℕ
self k = k

-- calls have a record for a key
abbrev pub Has : ℕ → List Call → Type 0
Has k cs = (c : Call) × (record_of k cs ≡ some c)

has_cons : (k : ℕ) (c : Call) (cs : List Call) → (k ≡ call_key c) ⊎ Has k cs → Has k (c ∷ cs)
has_cons k c cs h = go (ℕ_discrete (call_key c) k) h
  where
    go : Dec (call_key c ≡ k) → (k ≡ call_key c) ⊎ Has k cs → Has k (c ∷ cs)
    go (yes e) h = (c, find_hit k c cs e)
    go (no e) (inl f) = absurd (e (sym f))
    go (no e) (inr h) = (h.0, find_miss k c cs e ∙ h.1)

cons_has : (k : ℕ) (c : Call) (cs : List Call) → Has k (c ∷ cs) → (k ≡ call_key c) ⊎ Has k cs
cons_has k c cs h = go (ℕ_discrete (call_key c) k)
  where
    go : Dec (call_key c ≡ k) → (k ≡ call_key c) ⊎ Has k cs
    go (yes e) = inl (sym e)
    go (no e) = inr (h.0, sym (find_miss k c cs e) ∙ h.1)

nil_has : (k : ℕ) → Has k [] → ⊥
unfolding record_of
nil_has k h = let e = h.1 in let z : ◌≡◌ {A = ℕ} 0 1 = cc in omega arith

-- a number put among rising numbers
module _ (k j : ℕ) (js : List ℕ) where
  put_lt : k < j → put k (j ∷ js) ≡ k ∷ (j ∷ js)
  unfolding put
  put_lt h = simp (lt-ltb k j h)

  put_gt : j < k → put k (j ∷ js) ≡ j ∷ put k js
  unfolding put
  put_gt h = simp (lt-ltb j k h, le-ltb k j (omega arith))

  put_eq : k ≡ j → put k (j ∷ js) ≡ j ∷ js
  unfolding put
  put_eq h = simp (le-ltb j k (omega arith), le-ltb k j (omega arith))

put_rises : (n k : ℕ) (js : List ℕ) → n ≤ k → Rising self n js → Rising self n (put k js)
unfolding put self
put_rises n k [] h r = (h, tt)
put_rises n k (j ∷ js) h r = go (put_rises (suc j) k js) (three k j)
  where
    go : (suc j ≤ k → Rising self (suc j) js → Rising self (suc j) (put k js)) → Three k j → Rising self n (put k (j ∷ js))
    go ih (inl p) = rw (put_lt k j js p) (h, (p, r.1))
    go ih (inr (inl p)) = rw (put_eq k j js p) r
    go ih (inr (inr p)) = rw (put_gt k j js p) (r.0, ih p r.1)

in_put : (k : ℕ) (js : List ℕ) (i : ℕ) → (i ≡ k) ⊎ In i js → In i (put k js)
unfolding put
in_put k [] i m = ⊎_elim here (λ j. absurd (in-nil j)) m
in_put k (j ∷ js) i m = go (in_put k js i) (three k j) m
  where
    go : ((i ≡ k) ⊎ In i js → In i (put k js)) → Three k j → (i ≡ k) ⊎ In i (j ∷ js) → In i (put k (j ∷ js))
    go ih (inl p) (inl e) = rw (put_lt k j js p) (here e)
    go ih (inl p) (inr l) = rw (put_lt k j js p) (there l)
    go ih (inr (inl p)) (inl e) = rw (put_eq k j js p) (here (e ∙ p))
    go ih (inr (inl p)) (inr l) = rw (put_eq k j js p) l
    go ih (inr (inr p)) (inl e) = rw (put_gt k j js p) (there (ih (inl e)))
    go ih (inr (inr p)) (inr l) = rw (put_gt k j js p) (⊎_elim here (λ n. there (ih (inr n))) (in-cons l))

put_in : (k : ℕ) (js : List ℕ) (i : ℕ) → In i (put k js) → (i ≡ k) ⊎ In i js
unfolding put
put_in k [] i m = in-cons m
put_in k (j ∷ js) i m = go (put_in k js i) (three k j)
  where
    go : (In i (put k js) → (i ≡ k) ⊎ In i js) → Three k j → (i ≡ k) ⊎ In i (j ∷ js)
    go ih (inl p) = in-cons (rw (put_lt k j js p) at m)
    go ih (inr (inl p)) = inr (rw (put_eq k j js p) at m)
    go ih (inr (inr p)) = ⊎_elim (λ (e : i ≡ j). inr (here e)) (λ l. ⊎_elim inl (λ n. inr (there n)) (ih l)) (in-cons (rw (put_gt k j js p) at m))

-- the different keys of the books: rising, and all of them
all_rise : (cs : List Call) (js : List ℕ) → Rising self 0 js → Rising self 0 (put_all cs js)
unfolding put_all
all_rise [] js r = r
all_rise (c ∷ cs) js r = put_rises 0 (call_key c) (put_all cs js) (omega arith) (all_rise cs js r)

pub different_rise : (bs : List (List Call)) → Rising self 0 (different_keys bs)
unfolding different_keys
different_rise [] = tt
different_rise (b ∷ bs) = all_rise b (different_keys bs) (different_rise bs)

in_all : (cs : List Call) (js : List ℕ) (i : ℕ) → Has i cs ⊎ In i js → In i (put_all cs js)
unfolding put_all
in_all [] js i m = ⊎_elim (λ h. absurd (nil_has i h)) (λ j. j) m
in_all (c ∷ cs) js i (inl h) = in_put (call_key c) (put_all cs js) i (⊎_elim inl (λ l. inr (in_all cs js i (inl l))) (cons_has i c cs h))
in_all (c ∷ cs) js i (inr m) = in_put (call_key c) (put_all cs js) i (inr (in_all cs js i (inr m)))

all_in : (cs : List Call) (js : List ℕ) (i : ℕ) → In i (put_all cs js) → Has i cs ⊎ In i js
unfolding put_all
all_in [] js i m = inr m
all_in (c ∷ cs) js i m =
    ⊎_elim (λ e. inl (has_cons i c cs (inl e))) (λ j. ⊎_elim (λ l. inl (has_cons i c cs (inr l))) inr (all_in cs js i j))
    (put_in (call_key c) (put_all cs js) i m)

pub in_different : (bs : List (List Call)) (b : List Call) (i : ℕ) → In b bs → Has i b → In i (different_keys bs)
unfolding different_keys
in_different [] b i j h = absurd (in-nil j)
in_different (d ∷ bs) b i j h =
    in_all d (different_keys bs) i (⊎_elim (λ (e : b ≡ d). inl (subst (Has i) e h)) (λ l. inr (in_different bs b i l h)) (in-cons j))

pub different_in : (bs : List (List Call)) (i : ℕ) → In i (different_keys bs) → (b : List Call) × In b bs × Has i b
unfolding different_keys
different_in [] i m = absurd (in-nil m)
different_in (d ∷ bs) i m = go (different_in bs i) (all_in d (different_keys bs) i m)
  where
    go : (In i (different_keys bs) → (b : List Call) × In b bs × Has i b) → Has i d ⊎ In i (different_keys bs) → (b : List Call) × In b (d ∷ bs) × Has i b
    go ih (inl h) = (d, here refl, h)
    go ih (inr j) = let h = ih j in (h.0, there h.1, h.2)

-- In two parts

in_drop : (t : ℕ) (ks : List ℕ) (k : ℕ) → In k (drop t ks) → In k ks
in_drop zero ks k i = i
in_drop (suc t) [] k i = i
in_drop (suc t) (j ∷ ks) k i = there (in_drop t ks k i)

-- of rising keys each of the first so many is below each of the others
pub first_below : (n t : ℕ) (ks : List ℕ) → Rising self n ks → (k l : ℕ) → In k (take t ks) → In l (drop t ks) → k < l
unfolding self
first_below n zero ks r k l i j = absurd (in-nil i)
first_below n (suc t) [] r k l i j = absurd (in-nil i)
first_below n (suc t) (h ∷ ks) r k l i j =
    ⊎_elim (λ (e : k ≡ h). let a = in_above self (suc h) ks l r.1 (in_drop t ks l j) in omega arith)
    (λ m. first_below (suc h) t ks r.1 k l m j) (in-cons i)

-- How many they are, of calls whose keys rise and of one call more

put_had : (n k : ℕ) (js : List ℕ) → Rising self n js → In k js → length (put k js) ≡ length js
unfolding put self
put_had n k [] r i = absurd (in-nil i)
put_had n k (j ∷ js) r i = go (put_had (suc j) k js r.1) (three k j)
  where
    go : (In k js → length (put k js) ≡ length js) → Three k j → length (put k (j ∷ js)) ≡ length (j ∷ js)
    go ih (inl p) = absurd (let l = in_above self j (j ∷ js) k (omega arith, r.1) i in omega arith)
    go ih (inr (inl p)) = ap length (put_eq k j js p)
    go ih (inr (inr p)) = ap length (put_gt k j js p) ∙ ap suc (⊎_elim (λ (e : k ≡ j). absurd (omega arith)) ih (in-cons i))

put_new : (k : ℕ) (js : List ℕ) → (In k js → ⊥) → length (put k js) ≡ suc (length js)
unfolding put
put_new k [] n = refl
put_new k (j ∷ js) n = go (put_new k js (λ i. n (there i))) (three k j)
  where
    go : length (put k js) ≡ suc (length js) → Three k j → length (put k (j ∷ js)) ≡ suc (length (j ∷ js))
    go ih (inl p) = ap length (put_lt k j js p)
    go ih (inr (inl p)) = absurd (n (here p))
    go ih (inr (inr p)) = ap length (put_gt k j js p) ∙ ap suc ih

-- the first key of rising calls is not among the others
not_later : (n : ℕ) (c : Call) (cs : List Call) → Rises n (c ∷ cs) → Has (call_key c) cs → ⊥
not_later n c cs r h =
    let e = find_below (suc (call_key c)) (call_key c) cs r.1 (omega arith) in
    let f = h.1 in
    let z : ◌≡◌ {A = ℕ} 0 1 = cc in omega arith

keys_new : (n k : ℕ) (cs : List Call) → Rises n cs → (Has k cs → ⊥) → length (put_all cs (k ∷ [])) ≡ suc (length cs)
unfolding put_all
keys_new n k [] r h = refl
keys_new n k (c ∷ cs) r h =
    put_new (call_key c) (put_all cs (k ∷ []))
    (λ i. ⊎_elim (not_later n c cs r) (λ j. ⊎_elim (λ (e : call_key c ≡ k). h (c, find_hit k c cs e)) (λ l. absurd (in-nil l)) (in-cons j)) (all_in cs (k ∷ []) (call_key c) i))
    ∙ ap suc (keys_new (suc (call_key c)) k cs r.1 (λ l. h (has_cons k c cs (inr l))))

keys_had : (n k : ℕ) (cs : List Call) → Rises n cs → Has k cs → length (put_all cs (k ∷ [])) ≡ length cs
unfolding put_all
keys_had n k [] r h = absurd (nil_has k h)
keys_had n k (c ∷ cs) r h = go (keys_had (suc (call_key c)) k cs r.1) (ℕ_discrete (call_key c) k)
  where
    go : (Has k cs → length (put_all cs (k ∷ [])) ≡ length cs) → Dec (call_key c ≡ k) → length (put (call_key c) (put_all cs (k ∷ []))) ≡ suc (length cs)
    go ih (yes e) =
        put_had 0 (call_key c) (put_all cs (k ∷ [])) (all_rise cs (k ∷ []) (omega arith, tt)) (in_all cs (k ∷ []) (call_key c) (inr (here e)))
        ∙ keys_new (suc (call_key c)) k cs r.1 (λ l. not_later n c cs r (subst (λ (j : ℕ). Has j cs) (sym e) l))
    go ih (no e) =
        put_new (call_key c) (put_all cs (k ∷ []))
        (λ i. ⊎_elim (not_later n c cs r) (λ j. ⊎_elim (λ (f : call_key c ≡ k). e f) (λ l. absurd (in-nil l)) (in-cons j)) (all_in cs (k ∷ []) (call_key c) i))
        ∙ ap suc (ih (⊎_elim (λ (f : k ≡ call_key c). absurd (e (sym f))) (λ l. l) (cons_has k c cs h)))

module _ (cs : List Call) (w : Call) (r : Rises 0 cs) where
  -- a key that the calls have changes nothing, a new one is one more
  pub count_had : Has (call_key w) cs → length (different_keys (cs ∷ (w ∷ []) ∷ [])) ≡ length cs
  unfolding different_keys put_all put
  count_had h = keys_had 0 (call_key w) cs r h

  pub count_new : record_of (call_key w) cs ≡ none → length (different_keys (cs ∷ (w ∷ []) ∷ [])) ≡ suc (length cs)
  unfolding different_keys put_all put
  count_new e = keys_new 0 (call_key w) cs r (λ h. let f = h.1 in let z : ◌≡◌ {A = ℕ} 0 1 = cc in omega arith)

-- A record for each of the keys

-- what f gives a key is of that key
abbrev pub Keyed : (ℕ → Option Call) → Type 0
Keyed f = (k : ℕ) (c : Call) → f k ≡ some c → call_key c ≡ k

module _ (f : ℕ → Option Call) (keyed : Keyed f) where
  later : (j k : ℕ) (ks : List ℕ) → (j ≡ k → ⊥) → (f k ≡ none) ⊎ In k (j ∷ ks) → (f k ≡ none) ⊎ In k ks
  later j k ks p (inl e) = inl e
  later j k ks p (inr i) = ⊎_elim (λ (e : k ≡ j). absurd (p (sym e))) inr (in-cons i)

  -- a key finds what f gives it, where it is one of the keys or f gives it nothing
  pub at_find : (k : ℕ) (ks : List ℕ) → (f k ≡ none) ⊎ In k ks → record_of k (records_at f ks) ≡ f k
  unfolding records_at record_of also
  at_find k [] w = ⊎_elim sym (λ i. absurd (in-nil i)) w
  at_find k (j ∷ ks) w = go (at_find k ks) (f j) refl (ℕ_discrete j k)
    where
      go : ((f k ≡ none) ⊎ In k ks → record_of k (records_at f ks) ≡ f k) → (o : Option Call) → f j ≡ o → Dec (j ≡ k) → record_of k (also o (records_at f ks)) ≡ f k
      go ih none e (yes p) = ih (inl (sym (ap f p) ∙ e))
      go ih none e (no p) = ih (later j k ks p w)
      go ih (some c) e (yes p) = find_hit k c (records_at f ks) (keyed j c e ∙ p) ∙ sym e ∙ ap f p
      go ih (some c) e (no p) = find_miss k c (records_at f ks) (λ q. p (sym (keyed j c e) ∙ q)) ∙ ih (later j k ks p w)

  pub at_rises : (n : ℕ) (ks : List ℕ) → Rising self n ks → Rises n (records_at f ks)
  unfolding records_at also self
  at_rises n [] r = tt
  at_rises n (k ∷ ks) r = go (at_rises (suc k) ks r.1) (f k) refl
    where
      go : Rises (suc k) (records_at f ks) → (o : Option Call) → f k ≡ o → Rises n (also o (records_at f ks))
      go ih none e = weaken n (suc k) (records_at f ks) (let l = r.0 in omega arith) ih
      go ih (some c) e = let l = r.0 in (omega (arith, keyed k c e), weaken (suc (call_key c)) (suc k) (records_at f ks) (omega (arith, keyed k c e)) ih)

-- as many records as keys, where f gives each of them one
pub at_length : (f : ℕ → Option Call) (ks : List ℕ) → ((k : ℕ) → In k ks → (c : Call) × (f k ≡ some c)) → length (records_at f ks) ≡ length ks
unfolding records_at also
at_length f [] h = refl
at_length f (k ∷ ks) h = rw (h k (here refl)).1 (ap suc (at_length f ks (λ j i. h j (there i))))

-- and theirs are those keys
pub at_keys : (f : ℕ → Option Call) → Keyed f → (ks : List ℕ) → ((k : ℕ) → In k ks → (c : Call) × (f k ≡ some c)) → map call_key (records_at f ks) ≡ ks
unfolding records_at also
at_keys f keyed [] h = refl
at_keys f keyed (k ∷ ks) h =
    let c = h k (here refl) in
    rw c.1 (ap₂ (λ (j : ℕ) (js : List ℕ). j ∷ js) (keyed k c.0 c.1) (at_keys f keyed ks (λ j i. h j (there i))))
