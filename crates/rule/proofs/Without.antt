-- Where one key is taken out of every book of a list, the rule gives what it gave before, without that key. Assumes nothing.
use mathlib.Core.Path.{◌≡◌, refl, sym, ◌∙◌, ap, ap₂, subst}
use mathlib.Core.Bool.{Bool, true, false, cond}
use mathlib.Core.Logic.{◌⊎◌, inl, inr, ⊎_elim, ◌↔◌}
use mathlib.Core.List.Memᴰ
use mathlib.Core.List.Memᴰ.{cases_cons as in-cons}
use mathlib.Core.List.Memᴰ.{head as here}
use mathlib.Core.List.Memᴰ.{not-nil as in-nil}
use mathlib.Core.List.Memᴰ.{tail as there}
use mathlib.Core.List.{List, [], ◌∷◌, map, Memᴰ as In}
use mathlib.Core.Option.{none, some}
use Prim.Native.Nat.{ℕ, suc, ◌≤◌}
use native.Mathlib.Nat.{le_refl}
use native.Mathlib.Omega.{arith}
use native.Mathlib.Decide.{ℕ_discrete}
use lib.Dec.{eqb}
use lib.ListN.{length}
use Rattle.call.specs.declared.Call.{Call}
use Rattle.call.specs.Key.{call_key}
use Rattle.call.specs.Revising.{call_contested}
use Rattle.book.specs.Sound.{Rises}
use Rattle.book.specs.Without.{without}
use Rattle.book.proofs.Without.{without_hit, without_miss, without_rises}
use Rattle.rule.specs.Standing.{same_call, is_withdrawn}
use Rattle.rule.specs.Keys.{record_of, also, different_keys}
use Rattle.rule.specs.Whole.{records_of, those, all, highest, withdrawn_at, ruling, rule_for, rule_over, rule_calls}
use Rattle.rule.proofs.Keyed.{Rising, in_above, find_hit, find_miss, find_in, ext_find}
use Rattle.rule.proofs.Different.{self, Keyed, Has, different_rise, in_different, different_in, at_find, at_rises}
use Rattle.rule.proofs.Ruling.{records_in}

-- What the rule gives a key, over any lists of calls

those_in : (p : Call → Bool) (cs : List Call) (c : Call) → In c (those p cs) → In c cs
unfolding those
those_in p [] c i = absurd (in-nil i)
those_in p (d ∷ cs) c i = go (those_in p cs c) (p d) i
  where
    go : (In c (those p cs) → In c cs) → (b : Bool) → In c (cond b (d ∷ those p cs) (those p cs)) → In c (d ∷ cs)
    go ih true j = ⊎_elim here (λ l. there (ih l)) (in-cons j)
    go ih false j = there (ih j)

withdrawn_key : (r : ℕ) (c : Call) → call_key (withdrawn_at r c) ≡ call_key c
unfolding withdrawn_at
withdrawn_key r c = refl

-- is a record of that key
pub rule_keyed : (bs : List (List Call)) → Keyed (rule_over bs)
unfolding rule_over rule_for ruling
rule_keyed bs k c h = go (those is_withdrawn cs) (those top cs) refl refl h
  where
    cs : List Call
    cs = records_of k bs

    top : Call → Bool
    top x = eqb x.revision (highest cs)

    keys : (p : Call → Bool) (x : Call) (xs : List Call) → those p cs ≡ x ∷ xs → call_key x ≡ k
    keys p x xs e =
        let f = records_in k bs x (those_in p cs x (subst (λ (l : List Call). In x l) (sym e) (here refl))) in
        (find_in k f.0 x f.2).1

    either : (t : Call) (b : Bool) → call_key (cond b t (call_contested t)) ≡ call_key t
    either t true = refl
    either t false = refl

    go : (ws ts : List Call) → those is_withdrawn cs ≡ ws → those top cs ≡ ts → ruling ws ts ≡ some c → call_key c ≡ k
    go (w ∷ ws) ts e f h =
        let g : withdrawn_at (highest (w ∷ ws)) w ≡ c = cc in
        sym (ap call_key g) ∙ withdrawn_key (highest (w ∷ ws)) w ∙ keys is_withdrawn w ws e
    go [] [] e f h = let z : ◌≡◌ {A = ℕ} 0 1 = cc in absurd (omega arith)
    go [] (t ∷ ts) e f h =
        let g : cond (all (same_call t) ts) t (call_contested t) ≡ c = cc in
        sym (ap call_key g) ∙ either t (all (same_call t) ts) ∙ keys top t ts f

rule_empty : rule_for [] ≡ none
unfolding rule_for those ruling
rule_empty = refl

-- where no book has the key, nothing
or_none : (bs : List (List Call)) (k : ℕ) → (rule_over bs k ≡ none) ⊎ In k (different_keys bs)
unfolding rule_over
or_none bs k = go (records_of k bs) refl
  where
    go : (cs : List Call) → records_of k bs ≡ cs → (rule_for (records_of k bs) ≡ none) ⊎ In k (different_keys bs)
    go [] e = inl (ap rule_for e ∙ rule_empty)
    go (d ∷ ds) e =
        let f = records_in k bs d (subst (λ (l : List Call). In d l) (sym e) (here refl)) in
        inr (in_different bs f.0 k f.1 (d, f.2))

pub rule_find : (bs : List (List Call)) (k : ℕ) → record_of k (rule_calls bs) ≡ rule_over bs k
unfolding rule_calls
rule_find bs k = at_find (rule_over bs) (rule_keyed bs) k (different_keys bs) (or_none bs k)

pub rule_rises : (bs : List (List Call)) → Rises 0 (rule_calls bs)
unfolding rule_calls
rule_rises bs = at_rises (rule_over bs) (rule_keyed bs) 0 (different_keys bs) (different_rise bs)

-- What a list has for a key where key k is taken out

pub find_other : (k i : ℕ) (cs : List Call) → (i ≡ k → ⊥) → record_of i (without k cs) ≡ record_of i cs
unfolding without
find_other k i [] n = refl
find_other k i (c ∷ cs) n = go (find_other k i cs n) (ℕ_discrete (call_key c) k) (ℕ_discrete (call_key c) i)
  where
    go : record_of i (without k cs) ≡ record_of i cs → Dec (call_key c ≡ k) → Dec (call_key c ≡ i) → record_of i (without k (c ∷ cs)) ≡ record_of i (c ∷ cs)
    go ih (yes e) d = ap (record_of i) (without_hit k c cs e) ∙ ih ∙ sym (find_miss i c cs (λ f. n (sym f ∙ e)))
    go ih (no e) (yes f) = ap (record_of i) (without_miss k c cs e) ∙ find_hit i c (without k cs) f ∙ sym (find_hit i c cs f)
    go ih (no e) (no f) = ap (record_of i) (without_miss k c cs e) ∙ find_miss i c (without k cs) f ∙ ih ∙ sym (find_miss i c cs f)

pub find_gone : (k : ℕ) (cs : List Call) → record_of k (without k cs) ≡ none
unfolding without record_of
find_gone k [] = refl
find_gone k (c ∷ cs) = go (find_gone k cs) (ℕ_discrete (call_key c) k)
  where
    go : record_of k (without k cs) ≡ none → Dec (call_key c ≡ k) → record_of k (without k (c ∷ cs)) ≡ none
    go ih (yes e) = ap (record_of k) (without_hit k c cs e) ∙ ih
    go ih (no e) = ap (record_of k) (without_miss k c cs e) ∙ find_miss k c (without k cs) e ∙ ih

records_other : (k i : ℕ) (bs : List (List Call)) → (i ≡ k → ⊥) → records_of i (map (without k) bs) ≡ records_of i bs
unfolding records_of
records_other k i [] n = refl
records_other k i (b ∷ bs) n = ap₂ also (find_other k i b n) (records_other k i bs n)

records_gone : (k : ℕ) (bs : List (List Call)) → records_of k (map (without k) bs) ≡ []
unfolding records_of also
records_gone k [] = refl
records_gone k (b ∷ bs) = ap₂ also (find_gone k b) (records_gone k bs)

-- The rule's records are those of before, without that key.
pub rule_without : (k : ℕ) (bs : List (List Call)) → rule_calls (map (without k) bs) ≡ without k (rule_calls bs)
unfolding rule_over
rule_without k bs =
    ext_find 0 0 (rule_calls (map (without k) bs)) (without k (rule_calls bs)) (rule_rises (map (without k) bs))
    (without_rises k 0 0 (rule_calls bs) (le_refl 0) (rule_rises bs)) (λ i. rule_find (map (without k) bs) i ∙ at i (ℕ_discrete i k))
  where
    at : (i : ℕ) → Dec (i ≡ k) → rule_over (map (without k) bs) i ≡ record_of i (without k (rule_calls bs))
    at i (yes e) = rw e (ap rule_for (records_gone k bs) ∙ rule_empty ∙ sym (find_gone k (rule_calls bs)))
    at i (no e) = ap rule_for (records_other k i bs e) ∙ sym (find_other k i (rule_calls bs) e ∙ rule_find bs i)

-- The different keys are those of before, but for that one.
pub keys_without : (k : ℕ) (bs : List (List Call)) (i : ℕ) → In i (different_keys (map (without k) bs)) ↔ (In i (different_keys bs) × (i ≡ k → ⊥))
keys_without k bs i = (from, to)
  where
    not_there : (b : List Call) → Has i (without k b) → i ≡ k → ⊥
    not_there b h e = let g : record_of i (without k b) ≡ none = rw e (find_gone k b) in let f = h.1 in let z : ◌≡◌ {A = ℕ} 0 1 = cc in omega arith

    from : In i (different_keys (map (without k) bs)) → In i (different_keys bs) × (i ≡ k → ⊥)
    from j =
        let f = different_in (map (without k) bs) i j in
        let m = Memᴰ.of_map (without k) bs f.1 in
        let h : Has i (without k m.0) = subst (Has i) (sym m.2) f.2 in
        let n = not_there m.0 h in
        (in_different bs m.0 i m.1 (h.0, sym (find_other k i m.0 n) ∙ h.1), n)

    to : In i (different_keys bs) × (i ≡ k → ⊥) → In i (different_keys (map (without k) bs))
    to p =
        let f = different_in bs i p.0 in
        in_different (map (without k) bs) (without k f.0) i (Memᴰ.map (without k) f.1) (f.2.0, find_other k i f.0 p.1 ∙ f.2.1)

-- a rising list whose members are all among those of another is no longer
module _ {A : Type 0} (key : A → ℕ) where
  fewer : (n m : ℕ) (xs ys : List A) → Rising key n xs → Rising key m ys → ((a : A) → In a xs → In a ys) → length xs ≤ length ys
  fewer n m [] ys r s h = omega arith
  fewer n m (x ∷ xs) [] r s h = absurd (in-nil (h x (here refl)))
  fewer n m (x ∷ xs) (y ∷ ys) r s h =
      ⊎_elim (λ (e : x ≡ y). let t = fewer (suc (key x)) (suc (key y)) xs ys r.1 s.1 (tails e) in omega arith)
      (λ i. let t = fewer n (suc (key y)) (x ∷ xs) ys r s.1 (all_later i) in omega arith) (in-cons (h x (here refl)))
    where
      tails : x ≡ y → (a : A) → In a xs → In a ys
      tails e a i =
          ⊎_elim (λ (f : a ≡ y). absurd (let g = in_above key (suc (key x)) xs a r.1 i in omega (arith, ap key e, ap key f))) (λ j. j) (in-cons (h a (there i)))

      all_later : In x ys → (a : A) → In a (x ∷ xs) → In a ys
      all_later i a j =
          let g = in_above key (suc (key y)) ys x s.1 i in
          ⊎_elim (λ (f : a ≡ y). absurd (let u = in_above key (key x) (x ∷ xs) a (le_refl (key x), r.1) j in omega (arith, ap key f))) (λ l. l) (in-cons (h a j))

-- So they are no more.
pub fewer_keys : (k : ℕ) (bs : List (List Call)) → length (different_keys (map (without k) bs)) ≤ length (different_keys bs)
fewer_keys k bs =
    fewer self 0 0 (different_keys (map (without k) bs)) (different_keys bs) (different_rise (map (without k) bs)) (different_rise bs) (λ i j. ((keys_without k bs i).0 j).0)

-- More books have no fewer.
pub more_books : (bs cs : List (List Call)) → ((b : List Call) → In b bs → In b cs) → length (different_keys bs) ≤ length (different_keys cs)
more_books bs cs h =
    fewer self 0 0 (different_keys bs) (different_keys cs) (different_rise bs) (different_rise cs)
    (λ i j. let f = different_in bs i j in in_different cs f.0 i (h f.0 f.1) f.2)
