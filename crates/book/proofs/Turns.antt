-- A record's own tests, a turn over the records, and the ways out of the check. Assumes nothing.
use mathlib.Core.Path.{◌≡◌, refl, ◌∙◌, ap}
use mathlib.Core.Bool.{Bool, true, false, cond, ◌&&◌}
use mathlib.Core.List.{List}
use Prim.Native.Nat.{ℕ, suc, ◌+◌, ◌-◌, ◌<◌, ◌≤◌}
use native.Mathlib.Omega.{arith}
use lib.ListN.{length}
use lib.Dec.{eqb}
use borrow.Author.Tests.{lt-ltb, le-ltb, eq-eqb, ne_eqb}
use Rattle.call.specs.Key.{call_key}
use Rattle.call.specs.Layout.{reserved_at}
use Rattle.call.specs.Limits.{call_is_sound}
use Rattle.book.specs.Book.{header_size, size_of, place_of, HasHeader, header_at, count_at, record_at}
use Rattle.book.specs.Check.{refused, accepted, is_marked, is_versioned, is_headed, is_record, judge, next_at, check_records, header_minutes, check}

module _ (m : ℕ) (b : List ℕ) where
  -- a record with a last byte that is not zero is not sound; one without is as its fields are
  pub unsound : (i v : ℕ) → v ≡ reserved_at b (place_of i) → (v ≡ 0 → ⊥) → is_record m b i ≡ false
  unfolding is_record
  unsound i v e z = rw (← e, ne_eqb v 0 z) (never (call_is_sound m (record_at b i)))
    where
      never : (t : Bool) → (t && false) ≡ false
      never true = refl
      never false = refl

  pub fields : (i v : ℕ) → v ≡ reserved_at b (place_of i) → v ≡ 0 → is_record m b i ≡ call_is_sound m (record_at b i)
  unfolding is_record
  fields i v e z = rw (← e, eq-eqb v 0 z) (same (call_is_sound m (record_at b i)))
    where
      same : (t : Bool) → (t && true) ≡ t
      same true = refl
      same false = refl

  -- 5, 6 and 0, by the lowest key of the next record
  pub five : (low i : ℕ) → is_record m b i ≡ false → judge m b low i ≡ 5
  unfolding judge
  five low i e = rw e refl

  pub six : (low i next : ℕ) → is_record m b i ≡ true → next ≡ next_at b i → next ≤ low → judge m b low i ≡ 6
  unfolding judge
  six low i next e k h =
      let below : call_key (record_at b i) < low = omega arith in
      rw (e, lt-ltb (call_key (record_at b i)) low below) refl

  pub none : (low i next : ℕ) → is_record m b i ≡ true → next ≡ next_at b i → low < next → judge m b low i ≡ 0
  unfolding judge
  none low i next e k h =
      let not_below : low ≤ call_key (record_at b i) = omega arith in
      rw (e, le-ltb (call_key (record_at b i)) low not_below) refl

  one : (low i n : ℕ) → i < n → check_records m b low i (n - i) ≡ cond (eqb (judge m b low i) 0) (check_records m b (next_at b i) (suc i) (n - (i + 1))) (refused (judge m b low i) i)
  unfolding check_records
  one low i n h = let e : n - i ≡ suc (n - (i + 1)) = omega arith in ap (check_records m b low i) e

  -- a record that is refused ends it
  pub stops : (low i n v : ℕ) → i < n → v ≡ judge m b low i → (v ≡ 0 → ⊥) → check_records m b low i (n - i) ≡ refused v i
  stops low i n v h e z = one low i n h ∙ rw (← e, ne_eqb v 0 z) refl

  -- a record that passes leaves the rest
  pub goes_on_lem : (low i n v low' : ℕ) → i < n → v ≡ judge m b low i → v ≡ 0 → low' ≡ next_at b i → check_records m b low i (n - i) ≡ check_records m b low' (i + 1) (n - (i + 1))
  goes_on_lem low i n v low' h e z k =
      let s : suc i ≡ i + 1 = omega arith in
      one low i n h ∙ rw (← e, eq-eqb v 0 z, k, ← s) refl

  -- past the last one all are accepted
  pub ends : (low i n : ℕ) → n ≤ i → check_records m b low i (n - i) ≡ accepted
  unfolding check_records
  ends low i n h = let e : n - i ≡ 0 = omega arith in rw e

  pub starts : (n : ℕ) → check_records m b 0 0 (n - 0) ≡ check_records m b 0 0 n
  starts n = ap (check_records m b 0 0) (omega arith)

module _ (b : List ℕ) where
  pub short : length b < header_size → check b ≡ refused 1 0
  unfolding check
  short h = simp (lt-ltb _ _ h)

  module _ (h : HasHeader b) where
    pub unmarked : is_marked b ≡ false → check b ≡ refused 2 0
    unfolding check
    unmarked e = simp (le-ltb _ _ h, e)

    module _ (e : is_marked b ≡ true) where
      pub unversioned : is_versioned b ≡ false → check b ≡ refused 3 0
      unfolding check
      unversioned f = simp (le-ltb _ _ h, e, f)

      module _ (f : is_versioned b ≡ true) where
        pub unheaded : is_headed b ≡ false → check b ≡ refused 4 0
        unfolding check
        unheaded g = simp (le-ltb _ _ h, e, f, g)

        module _ (g : is_headed b ≡ true) where
          pub uncounted : (length b ≡ size_of (count_at b) → ⊥) → check b ≡ refused 1 0
          unfolding check
          uncounted k = simp (le-ltb _ _ h, e, f, g, ne_eqb _ _ k)

          pub counted : length b ≡ size_of (count_at b) → check b ≡ check_records (header_minutes (header_at b)) b 0 0 (count_at b)
          unfolding check
          counted k = simp (le-ltb _ _ h, e, f, g, eq-eqb _ _ k)
