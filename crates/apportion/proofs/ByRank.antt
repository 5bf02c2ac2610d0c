-- The reckoning comes to the rule: a weight gets one of the units left exactly where fewer come before it than are left. Assumes nothing.
use mathlib.Core.Path.{◌≡◌, refl, sym, ap, ◌∙◌}
use mathlib.Core.Bool.{Bool, true}
use mathlib.Core.List.{List, [], ◌∷◌, map}
use mathlib.Core.Logic.{◌⊎◌, inl, inr}
use Prim.Native.Nat.{ℕ, zero, suc, ◌+◌, ◌*◌, ◌/◌, ◌%◌, ◌<◌}
use native.Mathlib.Nat.{not-suc-le-zero}
use native.Mathlib.Omega.{arith}
use borrow.Author.Tests.{ltb-true, lt-ltb, le-ltb}
use lib.Dec.{ltb}
use lib.ListN.{length, get_or, length-map}
use lib.Seq.{ext_get_or}
use Rattle.apportion.specs.Apportion.{total, rounded_down, remainders, left, comes_before, one, count, rank, share_at, places, apportion}
use Rattle.apportion.specs.Giving.{reckoned}
use Rattle.apportion.proofs.Laws.{reckoned_fair, bases_le}
use Rattle.apportion.proofs.Order.{Before, Ordered, reckoned_ordered}
use Rattle.apportion.proofs.Rank.{In, in_from, count_le, count_lt, before_true, true_before, before_self}

in_at : (rs : List ℕ) (i j p : ℕ) → p ≡ j + i → i < length rs → In (get_or rs i 0) p j rs
in_at [] i j p e h = absurd (omega arith)
in_at (x ∷ rs) zero j p e h = inl (refl, omega arith)
in_at (x ∷ rs) (suc i) j p e h = inr (in_at rs i (suc j) p (omega arith) (omega arith))

in_val : (rs : List ℕ) (r i j k : ℕ) → i ≡ j + k → In r i j rs → r ≡ get_or rs k 0
in_val [] r i j k e m = absurd m
in_val (x ∷ rs) r i j zero e (inl m) = m.0
in_val (x ∷ rs) r i j zero e (inr m) = absurd (omega (arith, in_from r i (suc j) rs m))
in_val (x ∷ rs) r i j (suc k) e (inl m) = absurd (omega (arith, m.1))
in_val (x ∷ rs) r i j (suc k) e (inr m) = in_val rs r i (suc j) k (omega arith) m

count_shift : (P : ℕ → ℕ → Bool) (j : ℕ) (rs : List ℕ) → count P (suc j) rs ≡ count (λ r k. P r (suc k)) j rs
count_shift P j [] = refl
count_shift P j (r ∷ rs) = ap (λ (n : ℕ). one (P r (suc j)) + n) (count_shift P (suc j) rs)

-- Who has one more, counted.
abbrev more : List ℕ → List ℕ → ℕ → ℕ → Bool
more bs os r k = ltb (get_or bs k 0) (get_or os k 0)

count_more : (rs bs os : List ℕ) → length bs ≡ length rs → length os ≡ length rs
    → ((k : ℕ) → (get_or os k 0 ≡ get_or bs k 0) ⊎ (get_or os k 0 ≡ get_or bs k 0 + 1)) → total bs + count (more bs os) 0 rs ≡ total os
count_more [] [] [] lb lo each = refl
count_more [] [] (o ∷ os) lb lo each = absurd (omega arith)
count_more [] (b ∷ bs) os lb lo each = absurd (omega arith)
count_more (r ∷ rs) [] os lb lo each = absurd (omega arith)
count_more (r ∷ rs) (b ∷ bs) [] lb lo each = absurd (omega arith)
count_more (r ∷ rs) (b ∷ bs) (o ∷ os) lb lo each =
    tl (ap (λ (n : ℕ). total bs + n) (count_shift (more (b ∷ bs) (o ∷ os)) 0 rs) ∙ count_more rs bs os (omega arith) (omega arith) (λ k. each (suc k))) (each 0)
  where
    tl : total bs + count (more (b ∷ bs) (o ∷ os)) 1 rs ≡ total os → (o ≡ b) ⊎ (o ≡ b + 1) → total (b ∷ bs) + count (more (b ∷ bs) (o ∷ os)) 0 (r ∷ rs) ≡ total (o ∷ os)
    tl t (inl e) = omega (arith, ap one (le-ltb b o (omega arith)))
    tl t (inr e) = omega (arith, ap one (lt-ltb b o (omega arith)))

module _ (rs bs os : List ℕ) (lb : length bs ≡ length rs) (lo : length os ≡ length rs) (ord : Ordered rs bs os) where
  -- Who comes before a line that has one more has one more too.
  before_more : (i : ℕ) → get_or os i 0 ≡ get_or bs i 0 + 1 → (s k : ℕ) → In s k 0 rs → comes_before s k (get_or rs i 0) i ≡ true → more bs os s k ≡ true
  before_more i e s k m h = go (ord.each k) (rw (in_val rs s k 0 k (omega arith) m) at (true_before s k (get_or rs i 0) i h))
    where
      go : (get_or os k 0 ≡ get_or bs k 0) ⊎ (get_or os k 0 ≡ get_or bs k 0 + 1) → Before (get_or rs k 0) k (get_or rs i 0) i → more bs os s k ≡ true
      go (inr u) b = lt-ltb (get_or bs k 0) (get_or os k 0) (omega arith)
      go (inl u) b = absurd (clash (ord.order i k e u) b)
        where
          clash : Before (get_or rs i 0) i (get_or rs k 0) k → Before (get_or rs k 0) k (get_or rs i 0) i → ⊥
          clash (inl x) (inl y) = omega arith
          clash (inl x) (inr y) = omega arith
          clash (inr x) (inl y) = omega arith
          clash (inr x) (inr y) = omega arith

  -- Who has one more comes before a line that has not.
  more_before : (i : ℕ) → get_or os i 0 ≡ get_or bs i 0 → (s k : ℕ) → In s k 0 rs → more bs os s k ≡ true → comes_before s k (get_or rs i 0) i ≡ true
  more_before i e s k m h = go (ord.each k)
    where
      go : (get_or os k 0 ≡ get_or bs k 0) ⊎ (get_or os k 0 ≡ get_or bs k 0 + 1) → comes_before s k (get_or rs i 0) i ≡ true
      go (inl u) = absurd (omega (arith, ltb-true (get_or bs k 0) (get_or os k 0) h))
      go (inr u) = before_true s k (get_or rs i 0) i (rw (in_val rs s k 0 k (omega arith) m) (ord.order k i u e))

  served_by_rank : (l : ℕ) → total bs + l ≡ total os → (i : ℕ) → i < length rs → get_or os i 0 ≡ get_or bs i 0 + one (ltb (rank rs i) l)
  served_by_rank l t i h = go (ord.each i)
    where
      c : count (more bs os) 0 rs ≡ l
      c = omega (arith, count_more rs bs os lb lo ord.each)

      go : (get_or os i 0 ≡ get_or bs i 0) ⊎ (get_or os i 0 ≡ get_or bs i 0 + 1) → get_or os i 0 ≡ get_or bs i 0 + one (ltb (rank rs i) l)
      go (inr e) =
          let lt = count_lt (λ s k. comes_before s k (get_or rs i 0) i) (more bs os) 0 rs (before_more i e) (get_or rs i 0) i (in_at rs i 0 i (omega arith) h)
          (before_self (get_or rs i 0) i) (lt-ltb (get_or bs i 0) (get_or os i 0) (omega arith)) in
          omega (arith, c, ap one (lt-ltb (rank rs i) l (omega (arith, c))))
      go (inl e) =
          let le = count_le (more bs os) (λ s k. comes_before s k (get_or rs i 0) i) 0 rs (more_before i e) in
          omega (arith, c, ap one (le-ltb (rank rs i) l (omega (arith, c))))

-- The shares by their places

at_place : (f : ℕ → ℕ) (xs : List ℕ) (j i : ℕ) → i < length xs → get_or (map f (places j xs)) i 0 ≡ f (j + i)
at_place f [] j i h = absurd (not-suc-le-zero h)
at_place f (x ∷ xs) j zero h = ap f (omega arith)
at_place f (x ∷ xs) j (suc i) h = at_place f xs (suc j) i (omega arith) ∙ ap f (omega arith)

length_places : (j : ℕ) (xs : List ℕ) → length (places j xs) ≡ length xs
length_places j [] = refl
length_places j (x ∷ xs) = ap suc (length_places (suc j) xs)

pub share_at_lem : (amount : ℕ) (weights : List ℕ) (i : ℕ) → i < length weights → get_or (apportion amount weights) i 0 ≡ share_at amount weights i
unfolding apportion
share_at_lem amount weights i h = at_place (λ k. share_at amount weights k) weights 0 i h ∙ ap (λ (k : ℕ). share_at amount weights k) (omega arith)

pub length_apportion : (amount : ℕ) (weights : List ℕ) → length (apportion amount weights) ≡ length weights
unfolding apportion
length_apportion amount weights = length-map (places 0 weights) _ ∙ length_places 0 weights

-- THE RECKONING COMES TO THE RULE.
pub reckoned_by_rank : (amount : ℕ) (weights : List ℕ) → 0 < total weights → reckoned amount weights ≡ apportion amount weights
reckoned_by_rank amount weights some =
    let all = total weights in
    let fair = reckoned_fair amount weights some in
    let lr = length-map weights (λ (w : ℕ). amount * w % all) in
    let lb = length-map weights (λ (w : ℕ). amount * w / all) in
    let long : length (reckoned amount weights) ≡ length weights = fair.long ∙ length-map weights (λ (w : ℕ). amount * w) in
    ext_get_or 0 (reckoned amount weights) (apportion amount weights) (long ∙ sym (length_apportion amount weights))
    (λ i h. served_by_rank (remainders amount all weights) (rounded_down amount all weights) (reckoned amount weights) (lb ∙ sym lr) (long ∙ sym lr)
    (reckoned_ordered amount weights some) (left amount weights) (omega (arith, fair.adds, bases_le amount weights some)) i (omega (arith, h, long, lr))
    ∙ sym (share_at_lem amount weights i (omega (arith, h, long))))
