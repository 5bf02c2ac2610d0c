-- Laws on lists that the loops of this crate lean on. Assumes nothing.
use mathlib.Core.Path.{◌≡◌, refl, ap, ◌∙◌}
use mathlib.Core.List.{List, [], ◌∷◌, ◌++◌, map, append-nil}
use Prim.Native.Nat.{ℕ, zero, suc, ◌+◌, ◌-◌, ◌≤◌, ◌<◌}
use native.Mathlib.Numerals.{add-one}
use native.Mathlib.Nat.{not-suc-le-zero}
use native.Mathlib.Omega.{arith}
use lib.Arith.{lt-one}
use borrow.Author.Count.{below_more}
use lib.ListN.{length, get_or, set, take, drop, drop_of_length-le}
use lib.Seq.{take_all}
use borrow.Author.Tests.{le-leb, lt-leb}
use Rattle.std.specs.List.{sum}
use Rattle.std.proofs.lemmas.List.Recursion.{is_sum_by}
use Rattle.apportion.specs.Apportion.{total}
use Rattle.apportion.specs.Giving.{top, largest_at, give_out}

-- The largest of a list bounds each element, and is bounded by what bounds them all.
pub le_top : (xs : List ℕ) (k : ℕ) → get_or xs k 0 ≤ top xs
le_top [] k = omega arith
le_top (x ∷ xs) zero = omega arith
le_top (x ∷ xs) (suc k) = omega (arith, le_top xs k)

pub top_le : (xs : List ℕ) (v : ℕ) → ((k : ℕ) → k < length xs → get_or xs k 0 ≤ v) → top xs ≤ v
top_le [] v h = omega arith
top_le (x ∷ xs) v h = omega (arith, h 0 (omega arith), top_le xs v (λ k l. h (suc k) (omega arith)))

-- A place whose number is above those before it and no less than any is the place of the largest.
pub largest_is : (xs : List ℕ) (b : ℕ) → b < length xs → ((k : ℕ) → k < length xs → get_or xs k 0 ≤ get_or xs b 0)
    → ((k : ℕ) → k < b → get_or xs k 0 < get_or xs b 0) → b ≡ largest_at xs
largest_is [] b h most first = absurd (not-suc-le-zero h)
largest_is (x ∷ xs) zero h most first = rw (le-leb (top xs) x (top_le xs x (λ k l. most (suc k) (omega arith))))
largest_is (x ∷ xs) (suc b) h most first =
    rw (lt-leb (top xs) x (omega (arith, first 0 (omega arith), le_top xs b)))
    (ap suc (largest_is xs b (omega arith) (λ k l. most (suc k) (omega arith)) (λ k l. first (suc k) (omega arith))))

-- An element of a mapped list.
pub get_d_mapped : (f : ℕ → ℕ) (xs : List ℕ) (i : ℕ) → i < length xs → get_or (map f xs) i 0 ≡ f (get_or xs i 0)
get_d_mapped f [] i h = absurd (not-suc-le-zero h)
get_d_mapped f (x ∷ xs) zero h = refl
get_d_mapped f (x ∷ xs) (suc i) h = get_d_mapped f xs i (omega arith)

-- The walk that looks for the largest: b is ahead of the first i.
abbrev pub Ahead : List ℕ → ℕ → ℕ → Type 0
Ahead xs b i =
    (b < i) × (i ≤ length xs) × ((k : ℕ) → k < i → get_or xs k 0 ≤ get_or xs b 0) × ((k : ℕ) → k < b → get_or xs k 0 < get_or xs b 0)

pub ahead_start : (xs : List ℕ) → 0 < length xs → Ahead xs 0 1
ahead_start xs h = (omega arith, omega arith, (λ k l. rw (lt-one l) (omega arith)), λ k l. absurd (not-suc-le-zero l))

pub ahead_keep : (xs : List ℕ) (b i : ℕ) → Ahead xs b i → i < length xs → get_or xs i 0 ≤ get_or xs b 0 → Ahead xs b (i + 1)
ahead_keep xs b i a h le = (omega arith, omega arith, below_more (λ k. get_or xs k 0 ≤ get_or xs b 0) i a.2 le, a.3)

pub ahead_new : (xs : List ℕ) (b i : ℕ) → Ahead xs b i → i < length xs → get_or xs b 0 < get_or xs i 0 → Ahead xs i (i + 1)
ahead_new xs b i a h lt =
    (omega arith, omega arith, below_more (λ k. get_or xs k 0 ≤ get_or xs i 0) i (λ k l. omega (arith, a.2 k l)) (omega arith), λ k l. omega (arith, a.2 k l))

pub ahead_end : (xs : List ℕ) (b i : ℕ) → Ahead xs b i → length xs ≤ i → b ≡ largest_at xs
ahead_end xs b i a h = largest_is xs b (omega arith) (λ k l. a.2 k (omega arith)) a.3

-- A loop that writes the list s over the list d from the front: what stands there after i stores.
module _ {A : Type 0} where
  abbrev pub over : List A → List A → ℕ → List A
  over d s i = take i s ++ drop i d

  over_suc : (d s : List A) (i : ℕ) (z : A) → i < length d → i < length s → set (over d s i) i (get_or s i z) ≡ over d s (suc i)
  over_suc [] s i z h k = absurd (not-suc-le-zero h)
  over_suc (x ∷ d) [] i z h k = absurd (not-suc-le-zero k)
  over_suc (x ∷ d) (y ∷ s) zero z h k = refl
  over_suc (x ∷ d) (y ∷ s) (suc i) z h k = ap (λ (l : List A). y ∷ l) (over_suc d s i z (omega arith) (omega arith))

  pub over_step : (d s out : List A) (i : ℕ) (z v : A) → out ≡ over d s i → i < length d → i < length s → get_or s i z ≡ v → set out i v ≡ over d s (i + 1)
  over_step d s out i z v e h k g = rw (add-one, e, ← g) (over_suc d s i z h k)

  -- what has not been written over yet
  pub over_here : (d s out : List A) (i : ℕ) (z : A) → out ≡ over d s i → i < length d → i ≤ length s → get_or out i z ≡ get_or d i z
  over_here d s out i z e h k = rw e (go d s i h k)
    where
      go : (d s : List A) (i : ℕ) → i < length d → i ≤ length s → get_or (over d s i) i z ≡ get_or d i z
      go d s zero h k = refl
      go [] s (suc i) h k = absurd (not-suc-le-zero h)
      go (x ∷ d) [] (suc i) h k = absurd (not-suc-le-zero k)
      go (x ∷ d) (y ∷ s) (suc i) h k = go d s i (omega arith) (omega arith)

  pub over_end : (d s out : List A) (i : ℕ) → out ≡ over d s i → length s ≤ i → length d ≤ i → out ≡ s
  over_end d s out i e h k = e ∙ (rw (take_all i s h, drop_of_length-le d k) (append-nil s))

-- One turn of giving out.
pub give_turn : (k : ℕ) (rs ss : List ℕ) → 0 < k → give_out k rs ss ≡ give_out (k - 1) (set rs (largest_at rs) 0) (set ss (largest_at rs) (get_or ss (largest_at rs) 0 + 1))
give_turn zero rs ss h = absurd (not-suc-le-zero h)
give_turn (suc k) rs ss h =
    let e : suc k - 1 ≡ k = omega arith in
    rw e

-- The rule's sum is the library's.
pub total_sum : (xs : List ℕ) → total xs ≡ sum xs
total_sum xs = is_sum_by total (λ x. x) refl (λ _ _. refl) xs

pub get_d_total : (xs : List ℕ) (i : ℕ) → get_or xs i 0 ≤ total xs
get_d_total [] i = omega arith
get_d_total (x ∷ xs) zero = omega arith
get_d_total (x ∷ xs) (suc i) = omega (arith, get_d_total xs i)

pub total_some : (xs : List ℕ) → 0 < total xs → 0 < length xs
total_some [] h = h
total_some (x ∷ xs) h = omega arith
