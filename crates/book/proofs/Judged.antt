-- A verdict is acceptance, or one of the numbers 1 to 6; so number 0 is acceptance. Assumes nothing.
use mathlib.Core.Path.{◌≡◌, refl, ap}
use mathlib.Core.Bool.{Bool, true, false, cond, not}
use mathlib.Core.Logic.{◌⊎◌, inl, inr, ⊎_elim}
use mathlib.Core.List.{List}
use Prim.Native.Nat.{ℕ, zero, suc, ◌≤◌}
use native.Mathlib.Omega.{arith}
use lib.Dec.{eqb, ltb}
use lib.ListN.{length}
use borrow.Author.Tests.{ne_eqb}
use Rattle.call.specs.Key.{call_key}
use Rattle.book.specs.declared.Verdict.{Verdict}
use Rattle.book.specs.Book.{header_size, size_of, header_at, count_at, record_at}
use Rattle.book.specs.Check.{refused, accepted, is_marked, is_versioned, is_headed, is_record, header_minutes, judge, next_at, check_records, check}

abbrev pub Judged : Verdict → Type 0
Judged v = (v ≡ accepted) ⊎ ((1 ≤ v.number) × (v.number ≤ 6))

on : (t : Bool) (n : ℕ) (f : Verdict) → 1 ≤ n → n ≤ 6 → Judged f → Judged (cond t (refused n 0) f)
on true n f l h j = inr (l, h)
on false n f l h j = j

next : (v i : ℕ) (f : Verdict) → v ≤ 6 → Judged f → Judged (cond (eqb v 0) f (refused v i))
next zero i f h j = j
next (suc v) i f h j = rw (ne_eqb (suc v) 0 (λ e. omega arith)) (inr (omega arith, h))

judge_most : (m : ℕ) (b : List ℕ) (low i : ℕ) → judge m b low i ≤ 6
unfolding judge
judge_most m b low i = tests (is_record m b i) (ltb (call_key (record_at b i)) low)
  where
    tests : (t u : Bool) → cond (not t) 5 (cond u 6 0) ≤ 6
    tests true true = omega arith
    tests true false = omega arith
    tests false u = omega arith

from_judged : (m : ℕ) (b : List ℕ) (n low i : ℕ) → Judged (check_records m b low i n)
unfolding check_records
from_judged m b zero low i = inl refl
from_judged m b (suc n) low i = next (judge m b low i) i _ (judge_most m b low i) (from_judged m b n (next_at b i) (suc i))

pub check_judged : (b : List ℕ) → Judged (check b)
unfolding check
check_judged b =
    on (ltb (length b) header_size) 1 _ (omega arith) (omega arith)
    (on (not (is_marked b)) 2 _ (omega arith) (omega arith)
    (on (not (is_versioned b)) 3 _ (omega arith) (omega arith)
    (on (not (is_headed b)) 4 _ (omega arith) (omega arith)
    (on (not (eqb (length b) (size_of (count_at b)))) 1 _ (omega arith) (omega arith) (from_judged (header_minutes (header_at b)) b (count_at b) 0 0)))))

pub check_most : (b : List ℕ) → (check b).number ≤ 6
check_most b = ⊎_elim (λ (e : check b ≡ accepted). omega (arith, ap (λ (v : Verdict). v.number) e)) (λ h. h.1) (check_judged b)

-- number 0 is acceptance
pub zero_accepted : (b : List ℕ) → (check b).number ≡ 0 → check b ≡ accepted
zero_accepted b z = ⊎_elim (λ (e : check b ≡ accepted). e) (λ h. absurd (let l = h.0 in omega arith)) (check_judged b)
