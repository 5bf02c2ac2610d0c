-- What is left of a book, and the count of different keys: a step for each key while both books have records, and then the rest of one. Assumes nothing.
use mathlib.Core.Path.{◌≡◌, refl, sym, ◌∙◌, ap, ap₂}
use mathlib.Core.Bool.{Bool, true, false, ◌&&◌}
use mathlib.Core.Logic.{◌⊎◌, inl, inr}
use mathlib.Core.List.{List, [], ◌∷◌, ◌++◌, append-nil}
use Prim.Native.Nat.{ℕ, suc, ◌+◌, ◌-◌, ◌/◌, ◌<◌, ◌≤◌}
use native.Mathlib.Nat.{sub-zero}
use native.Mathlib.Omega.{arith}
use lib.Dec.{ltb}
use lib.ListN.{length, length-append}
use lib.Seq.{append_snoc}
use borrow.Author.Tests.{ltb-true, ltb-false}
use Rattle.le.proofs.Tests.{each}
use Rattle.call.specs.declared.Call.{Call}
use Rattle.call.specs.Key.{call_key}
use Rattle.call.specs.Layout.{record_size, call_at}
use Rattle.book.specs.Book.{size_of, count_at, record_at, calls_from, calls_of}
use Rattle.book.proofs.Records.{length_calls}
use Rattle.rule.specs.Standing.{standing}
use Rattle.rule.specs.Inner.{merge}
use Rattle.rule.proofs.Joins.{join_length}
use Rattle.rule.proofs.Merging.{
  Merges,
  left as gives-second,
  right as gives-first,
  lower as gives-lower,
  upper as gives-upper,
  both as Gives-both,
  merges,
  merge_nil,
  merge_lt,
  merge_gt,
  merge_eq,
  merge_joins,
}
use Rattle.pair.specs.Screening.{IsAccepted}
use Rattle.join.specs.Joining.{key_count, keys_of_both, joined_of}
use Rattle.join.specs.Steps.{left_of, KeySettled, lower, upper, equal}
use Rattle.join.proofs.Books.{keys_rise}

-- What is left of a book

pub left_cons : (b : List ℕ) (n i : ℕ) → i < n → left_of b n i ≡ record_at b i ∷ left_of b n (i + 1)
unfolding left_of calls_from
left_cons b n i h =
    let e : n - i ≡ suc (n - (i + 1)) = omega arith in
    ap (calls_from b i) e ∙ ap (λ (k : ℕ). record_at b i ∷ calls_from b k (n - (i + 1))) (omega arith)

pub left_end : (b : List ℕ) (n i : ℕ) → n ≤ i → left_of b n i ≡ []
unfolding left_of calls_from
left_end b n i h = let e : n - i ≡ 0 = omega arith in ap (calls_from b i) e

pub length_left : (b : List ℕ) (n i : ℕ) → length (left_of b n i) ≡ n - i
unfolding left_of
length_left b n i = length_calls b (n - i) i

merge_none : (xs : List Call) → merge [] xs ≡ xs
unfolding merge
merge_none xs = refl

-- a merge has at most the records of both lists
pub merges_short : {xs ys zs : List Call} → Merges xs ys zs → length zs ≤ length xs + length ys
merges_short gives-second = omega arith
merges_short gives-first = omega arith
merges_short (gives-lower h j) = let i = merges_short j in omega arith
merges_short (gives-upper h j) = let i = merges_short j in omega arith
merges_short (Gives-both h j) = let i = merges_short j in omega arith

-- a join has as many records as there are different keys
pub joined_length : (a b : List ℕ) → length (joined_of a b) ≡ keys_of_both a b
unfolding joined_of key_count
joined_length a b = join_length (calls_of a) (calls_of b)

-- all records of both books
module _ (a b : List ℕ) (p : IsAccepted a) (q : IsAccepted b) where
  pub all_left : merge (left_of a (count_at a) 0) (left_of b (count_at b) 0) ≡ joined_of a b
  unfolding left_of joined_of calls_of
  all_left =
      ap₂ merge (ap (calls_from a 0) (sub-zero (count_at a))) (ap (calls_from b 0) (sub-zero (count_at b)))
      ∙ merge_joins 0 (calls_from a 0 (count_at a)) (calls_from b 0 (count_at b)) (keys_rise a p) (keys_rise b q)

  -- as many as there are different keys
  pub count_left : length (merge (left_of a (count_at a) 0) (left_of b (count_at b) 0)) ≡ keys_of_both a b
  count_left = ap length all_left ∙ joined_length a b

  pub most_joined : (n m : ℕ) → n ≡ count_at a → m ≡ count_at b → keys_of_both a b ≤ n + m
  most_joined n m e f =
      let l = left_of a (count_at a) 0 in
      let r = left_of b (count_at b) 0 in
      omega (arith, merges_short (merges l r), length_left a (count_at a) 0, length_left b (count_at b) 0, count_left)

-- One step, from record i of n and record j of m

pub record Stepped (s : List ℕ) (n i : ℕ) (t : List ℕ) (m j p q : ℕ) (z : Call) : Type 0 where
  pub first : ℕ
  pub second : ℕ
  pub at_first : p ≡ size_of first
  pub at_second : q ≡ size_of second
  pub in_first : first ≤ n
  pub in_second : second ≤ m
  pub more : i + j < first + second
  pub joins : merge (left_of s n i) (left_of t m j) ≡ z ∷ merge (left_of s n first) (left_of t m second)

module _ (s : List ℕ) (n i : ℕ) (t : List ℕ) (m j : ℕ) (hi : i < n) (hj : j < m) {p q : ℕ} {z : Call} where
  step : KeySettled (record_at s i) (record_at t j) (size_of i) (size_of j) p q z → Stepped s n i t m j p q z
  step (lower h e f g) =
      record {
        first = i + 1;
        second = j;
        at_first = omega arith;
        at_second = f;
        in_first = omega arith;
        in_second = omega arith;
        more = omega arith;
        joins =
            let l = left_cons s n i hi in
            let r = left_cons t m j hj in
            cc (merge_lt (record_at s i) (left_of s n (i + 1)) (record_at t j) (left_of t m (j + 1)) h);
      }
  step (upper h e f g) =
      record {
        first = i;
        second = j + 1;
        at_first = e;
        at_second = omega arith;
        in_first = omega arith;
        in_second = omega arith;
        more = omega arith;
        joins =
            let l = left_cons s n i hi in
            let r = left_cons t m j hj in
            cc (merge_gt (record_at s i) (left_of s n (i + 1)) (record_at t j) (left_of t m (j + 1)) h);
      }
  step (equal h e f g) =
      record {
        first = i + 1;
        second = j + 1;
        at_first = omega arith;
        at_second = omega arith;
        in_first = omega arith;
        in_second = omega arith;
        more = omega arith;
        joins =
            let l = left_cons s n i hi in
            let r = left_cons t m j hj in
            cc (merge_eq (record_at s i) (left_of s n (i + 1)) (record_at t j) (left_of t m (j + 1)) h);
      }

-- the three ways of a key, by the tests of its records
module _ (x y : Call) (a b : ℕ) where
  pub settles_lower : ltb (call_key x) (call_key y) ≡ true → KeySettled x y a b (a + record_size) b x
  settles_lower h = lower (ltb-true _ _ h) refl refl refl

  pub settles_upper : ltb (call_key y) (call_key x) ≡ true → KeySettled x y a b a (b + record_size) y
  settles_upper h = upper (ltb-true _ _ h) refl refl refl

  pub settles_equal : ltb (call_key x) (call_key y) ≡ false → ltb (call_key y) (call_key x) ≡ false
      → KeySettled x y a b (a + record_size) (b + record_size) (standing x y)
  settles_equal h k = equal (omega (arith, ltb-false (call_key x) (call_key y) h, ltb-false (call_key y) (call_key x) k)) refl refl refl

-- a step goes on
pub further : {x y : Call} {a b p q : ℕ} {z : Call} → KeySettled x y a b p q z → a + b < p + q
further (lower h e f g) = omega arith
further (upper h e f g) = omega arith
further (equal h e f g) = omega arith

-- So many keys are settled, their records are `done`, and the rest is the join of what is left
pub record Counting (s : List ℕ) (n : ℕ) (t : List ℕ) (m a b k : ℕ) : Type 0 where
  pub first : ℕ
  pub second : ℕ
  pub at_first : a ≡ size_of first
  pub at_second : b ≡ size_of second
  pub in_first : first ≤ n
  pub in_second : second ≤ m
  pub few : k ≤ first + second
  pub done : List Call
  pub count : k ≡ length done
  pub joins : done ++ merge (left_of s n first) (left_of t m second) ≡ merge (left_of s n 0) (left_of t m 0)

pub start : (s : List ℕ) (n : ℕ) (t : List ℕ) (m : ℕ) → Counting s n t m 16 16 0
start s n t m =
    record { first = 0; second = 0; at_first = refl; at_second = refl; in_first = omega arith; in_second = omega arith; few = omega arith; done = []; count = refl; joins = refl }

module _ {s : List ℕ} {n : ℕ} {t : List ℕ} {m a b k : ℕ} (g : Counting s n t m a b k) where
  pub stepped : {p q : ℕ} {z : Call} → a < size_of n → b < size_of m → KeySettled (call_at s a) (call_at t b) a b p q z
      → Stepped s n g.first t m g.second p q z
  unfolding record_at
  stepped h l d =
      let e = g.at_first in
      let f = g.at_second in
      step s n g.first t m g.second (omega arith) (omega arith) (rw (e, f) at d)

  pub again : {p q : ℕ} {z : Call} → Stepped s n g.first t m g.second p q z → Counting s n t m p q (k + 1)
  again {p} {q} {z} d =
      let f = g.count in
      record {
        first = d.first;
        second = d.second;
        at_first = d.at_first;
        at_second = d.at_second;
        in_first = d.in_first;
        in_second = d.in_second;
        few = let r = d.more in let l = g.few in omega arith;
        done = g.done ++ (z ∷ []);
        count = sym (length-append g.done (z ∷ []) ∙ omega arith);
        joins = append_snoc g.done z _ ∙ ap (λ (l : List Call). g.done ++ l) (sym d.joins) ∙ g.joins;
      }

-- one book is at its end: what is left is what the other has left
pub last_left : (s : List ℕ) (n i : ℕ) (t : List ℕ) (m j : ℕ) → (n ≤ i) ⊎ (m ≤ j) → merge (left_of s n i) (left_of t m j) ≡ left_of s n i ++ left_of t m j
last_left s n i t m j (inl h) =
    let e = left_end s n i h in
    ap (λ (l : List Call). merge l (left_of t m j)) e ∙ merge_none (left_of t m j) ∙ sym (ap (λ (l : List Call). l ++ left_of t m j) e)
last_left s n i t m j (inr h) =
    let e = left_end t m j h in
    ap (merge (left_of s n i)) e ∙ merge_nil (left_of s n i) ∙ sym (ap (λ (l : List Call). left_of s n i ++ l) e ∙ append-nil (left_of s n i))

-- the test of the loop: both books have records
pub both_left : (a e b f : ℕ) → (ltb a e && ltb b f) ≡ true → (a < e) × (b < f)
both_left a e b f h =
    let t = each (ltb a e) (ltb b f ∷ []) h in
    (ltb-true a e t.0, ltb-true b f t.1.0)

pub one_over : (a e b f : ℕ) → (ltb a e && ltb b f) ≡ false → (e ≤ a) ⊎ (f ≤ b)
one_over a e b f h = go (ltb a e) refl h
  where
    go : (x : Bool) → ltb a e ≡ x → (x && ltb b f) ≡ false → (e ≤ a) ⊎ (f ≤ b)
    go true p q = inr (ltb-false b f q)
    go false p q = inl (ltb-false a e p)

-- the keys that are counted, and what is left of both books
pub counts_all : {s t : List ℕ} {a b k e f : ℕ} → IsAccepted s → IsAccepted t → Counting s (count_at s) t (count_at t) a b k
    → e ≡ size_of (count_at s) → f ≡ size_of (count_at t) → (ltb a e && ltb b f) ≡ false → k + (e - a) / 32 + (f - b) / 32 ≡ keys_of_both s t
counts_all {s} {t} {a} {b} {k} {e} {f} ps pt g p q h = go (one_over a e b f h)
  where
    go : (e ≤ a) ⊎ (f ≤ b) → k + (e - a) / 32 + (f - b) / 32 ≡ keys_of_both s t
    go o =
        let n = count_at s in
        let m = count_at t in
        let i = g.first in
        let j = g.second in
        let x = g.at_first in
        let y = g.at_second in
        let u = g.in_first in
        let v = g.in_second in
        let c = g.count in
        let l = left_of s n i in
        let r = left_of t m j in
        let over : (n ≤ i) ⊎ (m ≤ j) = ends o in
        let all : length (g.done ++ merge l r) ≡ keys_of_both s t = ap length g.joins ∙ count_left s t ps pt in
        let d : (e - a) / 32 ≡ n - i = omega arith in
        let w : (f - b) / 32 ≡ m - j = omega arith in
        omega (arith, length-append g.done (merge l r), ap length (last_left s n i t m j over), length-append l r, length_left s n i, length_left t m j)
      where
        ends : (e ≤ a) ⊎ (f ≤ b) → (count_at s ≤ g.first) ⊎ (count_at t ≤ g.second)
        ends (inl z) = let x = g.at_first in inl (omega arith)
        ends (inr z) = let y = g.at_second in inr (omega arith)
