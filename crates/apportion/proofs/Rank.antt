-- Counting, and the order in which the units left are given. Assumes nothing.
use mathlib.Core.Path.{◌≡◌, refl, ap}
use mathlib.Core.Bool.{Bool, true, false, ◌&&◌, ◌||◌}
use mathlib.Core.List.{List, [], ◌∷◌}
use mathlib.Core.Logic.{◌⊎◌, inl, inr}
use Prim.Native.Nat.{ℕ, suc, ◌≤◌, ◌<◌}
use native.Mathlib.Omega.{arith}
use borrow.Author.Tests.{ltb-true, lt-ltb, le-ltb, eqb-true, eq-eqb}
use lib.Dec.{ltb, eqb}
use Rattle.apportion.proofs.Order.{Before}
use Rattle.apportion.specs.Apportion.{comes_before, count, one}

-- r stands at the place i of rs, whose first place is j
abbrev pub In : ℕ → ℕ → ℕ → List ℕ → Type 0
In r i j [] = ⊥
In r i j (x ∷ rs) = ((r ≡ x) × (i ≡ j)) ⊎ In r i (suc j) rs

pub in_from : (r i j : ℕ) (rs : List ℕ) → In r i j rs → j ≤ i
in_from r i j [] h = absurd h
in_from r i j (x ∷ rs) (inl e) = omega arith
in_from r i j (x ∷ rs) (inr h) = omega (arith, in_from r i (suc j) rs h)

one_le : (a b : Bool) → (a ≡ true → b ≡ true) → one a ≤ one b
one_le true b h = rw (h refl) (omega arith)
one_le false true h = omega arith
one_le false false h = omega arith

pub count_le : (P Q : ℕ → ℕ → Bool) (j : ℕ) (rs : List ℕ) → ((r i : ℕ) → In r i j rs → P r i ≡ true → Q r i ≡ true) → count P j rs ≤ count Q j rs
count_le P Q j [] h = omega arith
count_le P Q j (r ∷ rs) h = omega (arith, one_le (P r j) (Q r j) (h r j (inl (refl, refl))), count_le P Q (suc j) rs (λ s i m. h s i (inr m)))

pub count_lt : (P Q : ℕ → ℕ → Bool) (j : ℕ) (rs : List ℕ) → ((r i : ℕ) → In r i j rs → P r i ≡ true → Q r i ≡ true)
    → (r i : ℕ) → In r i j rs → P r i ≡ false → Q r i ≡ true → count P j rs < count Q j rs
count_lt P Q j [] h r i m p q = absurd m
count_lt P Q j (x ∷ rs) h r i (inl e) p q =
    let p' : P x j ≡ false = rw (e.0, e.1) at p in
    let q' : Q x j ≡ true = rw (e.0, e.1) at q in
    omega (arith, ap one p', ap one q', count_le P Q (suc j) rs (λ s k m. h s k (inr m)))
count_lt P Q j (x ∷ rs) h r i (inr m) p q = omega (arith, one_le (P x j) (Q x j) (h x j (inl (refl, refl))), count_lt P Q (suc j) rs (λ s k m'. h s k (inr m')) r i m p q)

pub before_true : (s k r i : ℕ) → Before s k r i → comes_before s k r i ≡ true
before_true s k r i (inl h) = rw (lt-ltb r s h)
before_true s k r i (inr h) = rw (le-ltb r s (omega arith), eq-eqb r s h.0, lt-ltb k i h.1)

pub true_before : (s k r i : ℕ) → comes_before s k r i ≡ true → Before s k r i
true_before s k r i h = go (ltb r s) (eqb r s) (ltb k i) refl refl refl h
  where
    go : (a b c : Bool) → ltb r s ≡ a → eqb r s ≡ b → ltb k i ≡ c → (a || (b && c)) ≡ true → Before s k r i
    go true b c ea eb ec h = inl (ltb-true r s ea)
    go false true true ea eb ec h = inr (eqb-true r s eb, ltb-true k i ec)
    go false true false ea eb ec h = let z : ◌≡◌ {A = ℕ} 0 1 = cc in absurd (omega arith)
    go false false c ea eb ec h = let z : ◌≡◌ {A = ℕ} 0 1 = cc in absurd (omega arith)

pub before_self : (r i : ℕ) → comes_before r i r i ≡ false
before_self r i = rw (le-ltb r r (omega arith), le-ltb i i (omega arith)) (go (eqb r r))
  where
    go : (b : Bool) → (b && false) ≡ false
    go true = refl
    go false = refl
