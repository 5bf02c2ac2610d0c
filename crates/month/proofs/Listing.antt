-- Calls of members without a line, one by one. Assumes nothing.
use mathlib.Core.Path.{◌≡◌, refl, ap}
use mathlib.Core.Bool.{Bool, true, false, ◌||◌}
use mathlib.Core.List.{List, [], ◌∷◌}
use Prim.Native.Nat.{ℕ, suc, ◌+◌, ◌-◌, ◌≤◌, ◌<◌}
use native.Mathlib.Numerals.{add-one}
use native.Mathlib.Omega.{arith}
use lib.Dec.{eqb}
use Rattle.std.specs.List.{list_any}
use Rattle.book.specs.Book.{record_at, calls_from}
use Rattle.register.specs.declared.Entry.{Entry}
use Rattle.month.specs.Settling.{is_listed, is_unlisted, first_unlisted}

-- a member has a line where any line is its own
pub listed_any : (es : List Entry) (number : ℕ) → is_listed es number ≡ list_any (λ (e : Entry). eqb e.member.number number) es
unfolding is_listed
listed_any [] number = refl
listed_any (e ∷ es) number = ap (λ (t : Bool). eqb e.member.number number || t) (listed_any es number)

module _ (es : List Entry) (b : List ℕ) where
  calls_step : (i n : ℕ) → i < n → calls_from b i (n - i) ≡ record_at b i ∷ calls_from b (i + 1) (n - (i + 1))
  unfolding calls_from
  calls_step i n h =
      let e : n - i ≡ suc (n - (i + 1)) = omega arith in
      rw (e, add-one) refl

  pub unlisted_from : (n : ℕ) → 0 + first_unlisted es (calls_from b 0 (n - 0)) ≡ first_unlisted es (calls_from b 0 n)
  unlisted_from n =
      let e : n - 0 ≡ n = omega arith in
      rw e (omega arith)

  pub unlisted_here : (i n : ℕ) → i < n → is_unlisted es (record_at b i) ≡ true → first_unlisted es (calls_from b i (n - i)) ≡ 0
  unfolding first_unlisted
  unlisted_here i n h t = rw (calls_step i n h, t) refl

  pub unlisted_next : (i n : ℕ) → i < n → is_unlisted es (record_at b i) ≡ false
      → first_unlisted es (calls_from b i (n - i)) ≡ suc (first_unlisted es (calls_from b (i + 1) (n - (i + 1))))
  unfolding first_unlisted
  unlisted_next i n h t = rw (calls_step i n h, t) refl

  pub unlisted_none : (i n : ℕ) → n ≤ i → first_unlisted es (calls_from b i (n - i)) ≡ 0
  unfolding first_unlisted calls_from
  unlisted_none i n h =
      let e : n - i ≡ 0 = omega arith in
      rw e refl
