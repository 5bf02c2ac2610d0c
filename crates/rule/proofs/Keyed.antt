-- Lists whose keys rise: what a key finds, and that such a list is given by it. Assumes nothing.
use mathlib.Core.Path.{◌≡◌, refl, sym, ◌∙◌, ap}
use mathlib.Core.Logic.{◌⊎◌, inl, inr, ⊎_elim}
use mathlib.Core.List.Memᴰ.{cases_cons as in-cons}
use mathlib.Core.List.Memᴰ.{head as here}
use mathlib.Core.List.Memᴰ.{not-nil as in-nil}
use mathlib.Core.List.Memᴰ.{tail as there}
use mathlib.Core.List.{List, [], ◌∷◌, Memᴰ as In}
use mathlib.Core.Option.{none, some}
use Prim.Native.Nat.{ℕ, suc, ◌<◌}
use native.Mathlib.Omega.{arith}
use native.Mathlib.Decide.{dec_lt, ℕ_discrete}
use borrow.Author.Tests.{eq-eqb, ne_eqb}
use Rattle.call.specs.declared.Call.{Call}
use Rattle.call.specs.Key.{call_key}
use Rattle.book.specs.Sound.{Rises}
pub use Rattle.book.proofs.Rising.{Rising, in_above, Same, ext_in, rising, weaken, call_above, within_in}
use Rattle.rule.specs.Keys.{record_of}

-- less, equal or greater
abbrev pub Three : ℕ → ℕ → Type 0
Three m n = (m < n) ⊎ ((m ≡ n) ⊎ (n < m))

pub three : (m n : ℕ) → Three m n
three m n = go (dec_lt m n) (dec_lt n m)
  where
    go : Dec (m < n) → Dec (n < m) → Three m n
    go (yes p) q = inl p
    go (no p) (yes q) = inr (inr q)
    go (no p) (no q) = inr (inl (omega arith))

-- Calls

pub find_hit : (k : ℕ) (c : Call) (cs : List Call) → call_key c ≡ k → record_of k (c ∷ cs) ≡ some c
unfolding record_of
find_hit k c cs e = simp (eq-eqb (call_key c) k e)

pub find_miss : (k : ℕ) (c : Call) (cs : List Call) → (call_key c ≡ k → ⊥) → record_of k (c ∷ cs) ≡ record_of k cs
unfolding record_of
find_miss k c cs e = simp (ne_eqb (call_key c) k e)

pub find_below : (n k : ℕ) (cs : List Call) → Rises n cs → k < n → record_of k cs ≡ none
unfolding record_of
find_below n k [] r h = refl
find_below n k (c ∷ cs) r h =
    let q = r.0 in
    find_miss k c cs (λ e. omega arith) ∙ find_below (suc (call_key c)) k cs r.1 (omega arith)

pub in_find : (n : ℕ) (cs : List Call) (c : Call) → Rises n cs → In c cs → record_of (call_key c) cs ≡ some c
in_find n [] c r m = absurd (in-nil m)
in_find n (d ∷ cs) c r m =
    ⊎_elim (λ (e : c ≡ d). find_hit (call_key c) d cs (ap call_key (sym e)) ∙ ap some (sym e))
    (λ i.
    let h = call_above (suc (call_key d)) cs c r.1 i in
    find_miss (call_key c) d cs (λ e. omega arith) ∙ in_find (suc (call_key d)) cs c r.1 i) (in-cons m)

pub find_in : (k : ℕ) (cs : List Call) (c : Call) → record_of k cs ≡ some c → In c cs × (call_key c ≡ k)
unfolding record_of
find_in k [] c e = let z : ◌≡◌ {A = ℕ} 0 1 = cc in absurd (omega arith)
find_in k (d ∷ cs) c e = go (find_in k cs c) (ℕ_discrete (call_key d) k)
  where
    go : (record_of k cs ≡ some c → In c cs × (call_key c ≡ k)) → Dec (call_key d ≡ k) → In c (d ∷ cs) × (call_key c ≡ k)
    go ih (yes p) = let h : c ≡ d = cc (find_hit k d cs p) in (here h, ap call_key h ∙ p)
    go ih (no p) = let h = ih (sym (find_miss k d cs p) ∙ e) in (there h.0, h.1)

moved : (n : ℕ) (xs ys : List Call) → Rises n xs → ((k : ℕ) → record_of k xs ≡ record_of k ys) → (c : Call) → In c xs → In c ys
moved n xs ys r h c i = (find_in (call_key c) ys c (sym (h (call_key c)) ∙ in_find n xs c r i)).0

-- two rising lists in which every key finds the same are one list
pub ext_find : (n m : ℕ) (xs ys : List Call) → Rises n xs → Rises m ys → ((k : ℕ) → record_of k xs ≡ record_of k ys) → xs ≡ ys
ext_find n m xs ys r s h =
    ext_in call_key n m xs ys (rising n xs r) (rising m ys s) (λ c. (moved n xs ys r h c, moved m ys xs s (λ k. sym (h k)) c))
