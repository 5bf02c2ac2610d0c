-- Laws on lists that the loops over the array lean on. Assumes nothing.
use mathlib.Core.Path.{◌≡◌, refl, ap}
use mathlib.Core.List.{List, [], ◌∷◌, map}
use Prim.Native.Nat.{ℕ, zero, suc, ◌+◌, ◌≤◌, ◌<◌}
use native.Mathlib.Numerals.{add-one}
use native.Mathlib.Nat.{not-suc-le-zero}
use native.Mathlib.Omega.{arith}
use lib.ListN.{length, get_or, take, drop, drop_of_length-le, replicate}
use lib.Seq.{drop-cons, length-take-le, get_or-take}

-- A walk over the first `count` of an array: the element at i and the rest.
module _ {A : Type 0} where
  pub part_step : (xs : List A) (count i : ℕ) (d : A) → i < count → count ≤ length xs
      → drop i (take count xs) ≡ get_or xs i d ∷ drop (i + 1) (take count xs)
  part_step xs count i d h k =
      let l : i < length (take count xs) = rw (length-take-le count xs k) h in
      rw (add-one, drop-cons (take count xs) i d, get_or-take count xs i d)

  pub part_end : (xs : List A) (count i : ℕ) → count ≤ i → count ≤ length xs → drop i (take count xs) ≡ []
  part_end xs count i h k =
      let l : length (take count xs) ≤ i = rw (length-take-le count xs k) h in
      drop_of_length-le (take count xs) l

-- nothing to share, in an array of zeros
pub zeros_part : (n m : ℕ) (ws : List ℕ) → n ≤ length ws → n ≤ m → take {A = ℕ} n (replicate m 0) ≡ map (λ w. 0) (take n ws)
zeros_part zero m ws h k = refl
zeros_part (suc n) zero ws h k = absurd (omega arith)
zeros_part (suc n) (suc m) [] h k = absurd (omega arith)
zeros_part (suc n) (suc m) (w ∷ ws) h k = ap (λ (l : List ℕ). 0 ∷ l) (zeros_part n m ws (omega arith) (omega arith))

-- an element of a mapped list
pub get_d_mapped : {A B : Type 0} (f : A → B) (xs : List A) (i : ℕ) (d : A) (e : B) → i < length xs → get_or (map f xs) i e ≡ f (get_or xs i d)
get_d_mapped f [] i d e h = absurd (not-suc-le-zero h)
get_d_mapped f (x ∷ xs) zero d e h = refl
get_d_mapped f (x ∷ xs) (suc i) d e h = get_d_mapped f xs i d e (omega arith)
