-- The records of a book, both ways. Assumes nothing.
use mathlib.Core.Path.{◌≡◌, refl, sym, ◌∙◌, ap, ap₂}
use mathlib.Core.Bool.{Bool, true, false, cond, not}
use mathlib.Core.List.{List, [], ◌∷◌, ◌++◌, append_assoc}
use Prim.Native.Nat.{ℕ, zero, suc, ◌+◌, ◌*◌, ◌≤◌}
use native.Mathlib.Omega.{arith}
use lib.Dec.{eqb, ltb}
use lib.ListN.{length, drop, length-append}
use lib.Seq.{drop-length}
use borrow.Author.Tests.{eq-eqb, ne_eqb, eqb-true, le-ltb, ltb-false}
use Rattle.le.specs.Le.{IsBytes}
use Rattle.le.proofs.Laws.{le_at_append}
use Rattle.le.proofs.Tests.{each}
use Rattle.units.specs.Month.{most_minutes}
use Rattle.call.specs.declared.Call.{Call}
use Rattle.call.specs.Key.{call_key}
use Rattle.call.specs.Limits.{call_is_sound}
use Rattle.call.specs.Layout.{record_size, call_at, call_bytes, reserved_at}
use Rattle.call.specs.Service.{CallWithin}
use Rattle.call.proofs.Bytes.{Sized, length_call, call_back, reserved_back, call_append, record_again, number_fits, revision_fits}
use Rattle.call.proofs.Exact.{sound_within, within_sound, within_sized}
use Rattle.book.specs.declared.Verdict.{Verdict}
use Rattle.book.specs.Book.{size_of, place_of, record_at, calls_from, record_bytes}
use Rattle.book.specs.Check.{refused, accepted, is_record, judge, check_records}
use Rattle.book.specs.Sound.{CallsWithin, Rises}

-- record i, written behind what lies before it
module _ (p : List ℕ) (i : ℕ) (e : length p ≡ size_of i) (c : Call) (t : List ℕ) where
  pub record_back : Sized c → record_at (p ++ (call_bytes c ++ t)) i ≡ c
  unfolding record_at
  record_back s = ap (call_at (p ++ (call_bytes c ++ t))) (sym e) ∙ call_append p (call_bytes c ++ t) ∙ call_back c t s

  pub zeros_back : reserved_at (p ++ (call_bytes c ++ t)) (place_of i) ≡ 0
  zeros_back = ap (reserved_at (p ++ (call_bytes c ++ t))) (sym e) ∙ le_at_append 4 p (call_bytes c ++ t) 28 ∙ reserved_back c t

  pub longer : length (p ++ call_bytes c) ≡ size_of (suc i)
  longer = length-append p (call_bytes c) ∙ omega (arith, e, length_call c)

  pub regroup : p ++ (call_bytes c ++ t) ≡ (p ++ call_bytes c) ++ t
  regroup = sym (append_assoc p (call_bytes c) t)

-- the calls of a book that was written
pub calls_back : (m : ℕ) (cs : List Call) (p : List ℕ) (i : ℕ) → m ≤ most_minutes → CallsWithin m cs → length p ≡ size_of i → calls_from (p ++ record_bytes cs) i (length cs) ≡ cs
unfolding calls_from record_bytes
calls_back m [] p i k w e = refl
calls_back m (c ∷ cs) p i k w e =
    let t = record_bytes cs in
    let head = record_back p i e c t (within_sized m c k w.0) in
    let tail = ap (λ (l : List ℕ). calls_from l (suc i) (length cs)) (regroup p i e c t) ∙ calls_back m cs (p ++ call_bytes c) (suc i) k w.1 (longer p i e c t) in
    ap₂ (λ (x : Call) (xs : List Call). x ∷ xs) head tail

pub length_calls : (b : List ℕ) (n i : ℕ) → length (calls_from b i n) ≡ n
unfolding calls_from
length_calls b zero i = refl
length_calls b (suc n) i = ap suc (length_calls b n (suc i))

-- 0 for a record that passes both tests, and for no other
pub judge_good : (m : ℕ) (b : List ℕ) (low i : ℕ) → call_is_sound m (record_at b i) ≡ true → reserved_at b (place_of i) ≡ 0 → low ≤ call_key (record_at b i) → judge m b low i ≡ 0
unfolding judge is_record
judge_good m b low i e z h = simp (e, eq-eqb _ _ z, le-ltb _ _ h)

pub judge_zero : (m : ℕ) (b : List ℕ) (low i : ℕ) → judge m b low i ≡ 0 → (call_is_sound m (record_at b i) ≡ true) × (reserved_at b (place_of i) ≡ 0) × (low ≤ call_key (record_at b i))
unfolding judge is_record
judge_zero m b low i h =
    let p = tests (is_record m b i) (ltb (call_key (record_at b i)) low) h in
    let q = each (call_is_sound m (record_at b i)) (eqb (reserved_at b (place_of i)) 0 ∷ []) p.0 in
    (q.0, eqb-true _ _ q.1.0, ltb-false _ _ p.1)
  where
    tests : (t u : Bool) → ◌≡◌ {A = ℕ} (cond (not t) 5 (cond u 6 0)) 0 → (t ≡ true) × (u ≡ false)
    tests true false e = (refl, refl)
    tests true true e = absurd (omega arith)
    tests false u e = absurd (omega arith)

-- the records of a book that was written pass
pub records_accepted : (m low : ℕ) (cs : List Call) (p : List ℕ) (i : ℕ) → m ≤ most_minutes → CallsWithin m cs → Rises low cs → length p ≡ size_of i
    → check_records m (p ++ record_bytes cs) low i (length cs) ≡ accepted
unfolding check_records record_bytes
records_accepted m low [] p i k w r e = refl
records_accepted m low (c ∷ cs) p i k w r e =
    let t = record_bytes cs in
    let s = p ++ (call_bytes c ++ t) in
    let head : record_at s i ≡ c = record_back p i e c t (within_sized m c k w.0) in
    let v : judge m s low i ≡ 0 = judge_good m s low i (ap (call_is_sound m) head ∙ within_sound m c k w.0) (zeros_back p i e c t) (rw head r.0) in
    let tail : check_records m s (suc (call_key c)) (suc i) (length cs) ≡ accepted =
    ap (λ (l : List ℕ). check_records m l (suc (call_key c)) (suc i) (length cs)) (regroup p i e c t)
    ∙ records_accepted m (suc (call_key c)) cs (p ++ call_bytes c) (suc i) k w.1 r.1 (longer p i e c t) in
    rw (v, head) tail

-- a turn that does not end the check
pub went_on : (v i : ℕ) (f : Verdict) → cond (eqb v 0) f (refused v i) ≡ accepted → (v ≡ 0) × (f ≡ accepted)
went_on zero i f e = (refl, e)
went_on (suc v) i f e = absurd (let z : suc v ≡ 0 = ap (λ (x : Verdict). x.number) (rw (ne_eqb (suc v) 0 (λ x. omega arith)) at e) in omega arith)

-- and records that pass are those that were written
module _ (m : ℕ) (b : List ℕ) (small : IsBytes b) where
  pub record_within : (i : ℕ) → call_is_sound m (record_at b i) ≡ true → CallWithin m (record_at b i)
  unfolding record_at
  record_within i e = sound_within m (record_at b i) (number_fits b small (size_of i)) (revision_fits b small (size_of i)) e

  pub records_sound : (n low i : ℕ) → length b ≡ size_of i + record_size * n → check_records m b low i n ≡ accepted
      → CallsWithin m (calls_from b i n) × Rises low (calls_from b i n) × (drop (size_of i) b ≡ record_bytes (calls_from b i n))
  unfolding check_records calls_from record_bytes record_at
  records_sound zero low i l e = let k : size_of i ≡ length b = omega arith in (tt, tt, ap (λ (j : ℕ). drop j b) k ∙ drop-length b)
  records_sound (suc n) low i l e =
      let p = went_on (judge m b low i) i _ e in
      let q = judge_zero m b low i p.0 in
      let r = records_sound n (suc (call_key (record_at b i))) (suc i) (omega arith) p.1 in
      let k : size_of i + record_size ≡ size_of (suc i) = omega arith in (
        (record_within i q.0, r.0),
        (q.2, r.1),
        record_again b small (size_of i) (omega arith) q.1 ∙ ap (λ (t : List ℕ). call_bytes (call_at b (size_of i)) ++ t) (ap (λ (j : ℕ). drop j b) k ∙ r.2),
      )
