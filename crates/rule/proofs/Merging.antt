-- The merge of two lists whose keys rise is their join. Assumes nothing.
use mathlib.Core.Path.{◌≡◌, refl, sym, ◌∙◌}
use mathlib.Core.Logic.{inl, inr}
use mathlib.Core.List.{List, [], ◌∷◌}
use mathlib.Core.Option.{Option, none, some}
use Prim.Native.Nat.{ℕ, suc, ◌≤◌, ◌<◌}
use native.Mathlib.Omega.{arith}
use native.Mathlib.Decide.{ℕ_discrete}
use lib.ListN.{length}
use borrow.Author.Tests.{lt-ltb, le-ltb}
use Rattle.call.specs.declared.Call.{Call}
use Rattle.call.specs.Key.{call_key}
use Rattle.book.specs.Sound.{Rises}
use Rattle.rule.specs.Standing.{standing}
use Rattle.rule.specs.Keys.{record_of}
use Rattle.rule.specs.Joined.{joined_at, join_calls}
use Rattle.rule.specs.Inner.{merge_from, merge}
use Rattle.rule.proofs.Keyed.{Three, three, weaken, find_hit, find_miss, find_below, ext_find}
use Rattle.rule.proofs.Lattice.{stand_key}
use Rattle.rule.proofs.Joins.{join_find, join_rises}

-- the merge's equations
pub merge_nil : (xs : List Call) → merge xs [] ≡ xs
unfolding merge merge_from
merge_nil [] = refl
merge_nil (x ∷ xs) = refl

module _ (x : Call) (xs : List Call) (y : Call) (ys : List Call) where
  pub merge_lt : call_key x < call_key y → merge (x ∷ xs) (y ∷ ys) ≡ x ∷ merge xs (y ∷ ys)
  unfolding merge merge_from
  merge_lt h = simp (lt-ltb (call_key x) (call_key y) h)

  pub merge_gt : call_key y < call_key x → merge (x ∷ xs) (y ∷ ys) ≡ y ∷ merge (x ∷ xs) ys
  unfolding merge merge_from
  merge_gt h = simp (lt-ltb (call_key y) (call_key x) h, le-ltb (call_key x) (call_key y) (omega arith))

  pub merge_eq : call_key x ≡ call_key y → merge (x ∷ xs) (y ∷ ys) ≡ standing x y ∷ merge xs ys
  unfolding merge merge_from
  merge_eq h = simp (le-ltb (call_key y) (call_key x) (omega arith), le-ltb (call_key x) (call_key y) (omega arith))

-- the same as a relation, to recurse on
pub data Merges : List Call → List Call → List Call → Type 0 where
  left : {ys : List Call} → Merges [] ys ys
  right : {x : Call} {xs : List Call} → Merges (x ∷ xs) [] (x ∷ xs)
  lower : {x y : Call} {xs ys zs : List Call} → call_key x < call_key y → Merges xs (y ∷ ys) zs → Merges (x ∷ xs) (y ∷ ys) (x ∷ zs)
  upper : {x y : Call} {xs ys zs : List Call} → call_key y < call_key x → Merges (x ∷ xs) ys zs → Merges (x ∷ xs) (y ∷ ys) (y ∷ zs)
  both : {x y : Call} {xs ys zs : List Call} → call_key x ≡ call_key y → Merges xs ys zs → Merges (x ∷ xs) (y ∷ ys) (standing x y ∷ zs)

weaves : (x : Call) (xs : List Call) → ((ys : List Call) → Merges xs ys (merge xs ys)) → (ys : List Call) → Merges (x ∷ xs) ys (merge (x ∷ xs) ys)
weaves x xs ih [] = rw (merge_nil (x ∷ xs)) right
weaves x xs ih (y ∷ ys) = go (three (call_key x) (call_key y)) (weaves x xs ih ys)
  where
    go : Three (call_key x) (call_key y) → Merges (x ∷ xs) ys (merge (x ∷ xs) ys) → Merges (x ∷ xs) (y ∷ ys) (merge (x ∷ xs) (y ∷ ys))
    go (inl h) i = rw (merge_lt x xs y ys h) (lower h (ih (y ∷ ys)))
    go (inr (inl h)) i = rw (merge_eq x xs y ys h) (both h (ih ys))
    go (inr (inr h)) i = rw (merge_gt x xs y ys h) (upper h i)

pub merges : (xs ys : List Call) → Merges xs ys (merge xs ys)
unfolding merge
merges [] ys = left
merges (x ∷ xs) ys = weaves x xs (merges xs) ys

-- rising, and at least as long as either
pub merges_rises : (n : ℕ) {xs ys zs : List Call} → Merges xs ys zs → Rises n xs → Rises n ys → Rises n zs
merges_rises n left r s = s
merges_rises n right r s = r
merges_rises n (lower {x = x} h j) r s = (r.0, merges_rises (suc (call_key x)) j r.1 (h, s.1))
merges_rises n (upper {y = y} h j) r s = (s.0, merges_rises (suc (call_key y)) j (h, r.1) s.1)
merges_rises n (both {x = x} {y = y} {ys = ys} {zs = zs} h j) r s =
    let e = stand_key x y h in
    let low = r.0 in (
      omega arith,
      weaken (suc (call_key (standing x y))) (suc (call_key x)) zs (omega arith)
          (merges_rises (suc (call_key x)) j r.1 (weaken (suc (call_key x)) (suc (call_key y)) ys (omega arith) s.1)),
    )

pub merges_long : {xs ys zs : List Call} → Merges xs ys zs → (length xs ≤ length zs) × (length ys ≤ length zs)
merges_long left = omega arith
merges_long right = omega arith
merges_long (lower h j) = let i = merges_long j in omega arith
merges_long (upper h j) = let i = merges_long j in omega arith
merges_long (both h j) = let i = merges_long j in omega arith

none_at : (o : Option Call) → o ≡ joined_at none o
unfolding joined_at
none_at none = refl
none_at (some x) = refl

at_none : (o : Option Call) → o ≡ joined_at o none
unfolding joined_at
at_none none = refl
at_none (some x) = refl

pub merges_find : (k n : ℕ) {xs ys zs : List Call} → Merges xs ys zs → Rises n xs → Rises n ys
    → record_of k zs ≡ joined_at (record_of k xs) (record_of k ys)
unfolding joined_at record_of
merges_find k n (left {ys = ys}) r s = none_at (record_of k ys)
merges_find k n (right {x = x} {xs = xs}) r s = at_none (record_of k (x ∷ xs))
merges_find k n (lower {x = x} {y = y} {xs = xs} {ys = ys} {zs = zs} h j) r s =
    go (merges_find k (suc (call_key x)) j r.1 (h, s.1)) (ℕ_discrete (call_key x) k)
  where
    go : record_of k zs ≡ joined_at (record_of k xs) (record_of k (y ∷ ys)) → Dec (call_key x ≡ k)
        → record_of k (x ∷ zs) ≡ joined_at (record_of k (x ∷ xs)) (record_of k (y ∷ ys))
    go ih (yes e) = cc (find_hit k x zs e, find_hit k x xs e, find_below (call_key y) k (y ∷ ys) (omega arith, s.1) (omega arith))
    go ih (no e) = cc (find_miss k x zs e, find_miss k x xs e)
merges_find k n (upper {x = x} {y = y} {xs = xs} {ys = ys} {zs = zs} h j) r s =
    go (merges_find k (suc (call_key y)) j (h, r.1) s.1) (ℕ_discrete (call_key y) k)
  where
    go : record_of k zs ≡ joined_at (record_of k (x ∷ xs)) (record_of k ys) → Dec (call_key y ≡ k)
        → record_of k (y ∷ zs) ≡ joined_at (record_of k (x ∷ xs)) (record_of k (y ∷ ys))
    go ih (yes e) = cc (find_hit k y zs e, find_hit k y ys e, find_below (call_key x) k (x ∷ xs) (omega arith, r.1) (omega arith))
    go ih (no e) = cc (find_miss k y zs e, find_miss k y ys e)
merges_find k n (both {x = x} {y = y} {xs = xs} {ys = ys} {zs = zs} h j) r s =
    go (merges_find k (suc (call_key x)) j r.1 (weaken (suc (call_key x)) (suc (call_key y)) ys (omega arith) s.1)) (ℕ_discrete (call_key x) k)
  where
    key : call_key (standing x y) ≡ call_key x
    key = stand_key x y h

    go : record_of k zs ≡ joined_at (record_of k xs) (record_of k ys) → Dec (call_key x ≡ k)
        → record_of k (standing x y ∷ zs) ≡ joined_at (record_of k (x ∷ xs)) (record_of k (y ∷ ys))
    go ih (yes e) = cc (find_hit k (standing x y) zs (key ∙ e), find_hit k x xs e, find_hit k y ys (sym h ∙ e))
    go ih (no e) =
        cc (find_miss k (standing x y) zs (λ f. e (sym key ∙ f)), find_miss k x xs e, find_miss k y ys (λ f. e (h ∙ f)))

pub merge_joins : (n : ℕ) (xs ys : List Call) → Rises n xs → Rises n ys → merge xs ys ≡ join_calls xs ys
merge_joins n xs ys r s =
    ext_find n 0 (merge xs ys) (join_calls xs ys) (merges_rises n (merges xs ys) r s) (join_rises xs ys)
    (λ k. merges_find k n (merges xs ys) r s ∙ sym (join_find xs ys k))

-- a join is at least as long as either list
pub join_long : (n : ℕ) (xs ys : List Call) → Rises n xs → Rises n ys → (length xs ≤ length (join_calls xs ys)) × (length ys ≤ length (join_calls xs ys))
join_long n xs ys r s = rw (← merge_joins n xs ys r s) (merges_long (merges xs ys))
