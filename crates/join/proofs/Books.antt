-- What a check that accepts says of each record's bytes and of the keys. Assumes nothing.
use mathlib.Core.Path.{◌≡◌, sym, ◌∙◌, ap}
use mathlib.Core.List.{List}
use Prim.Native.Nat.{ℕ, zero, suc, ◌+◌, ◌<◌, ◌≤◌}
use native.Mathlib.Nat.{zero-add}
use native.Mathlib.Omega.{arith}
use lib.ListN.{length}
use Rattle.call.specs.Key.{call_key}
use Rattle.call.specs.Layout.{reserved_at}
use Rattle.book.specs.Book.{most_keys, size_of, header_at, count_at, record_at, calls_from, calls_of}
use Rattle.book.specs.Check.{accepted, header_minutes, judge, check_records}
use Rattle.book.specs.Sound.{Rises}
use Rattle.book.proofs.Records.{judge_zero, went_on}
use Rattle.book.proofs.Exact.{accepted_tests, accepted_few}
use Rattle.pair.specs.Screening.{IsAccepted}
use Rattle.join.specs.Steps.{RecordLies}

zeros : (m : ℕ) (b : List ℕ) (n low i : ℕ) → check_records m b low i n ≡ accepted → (j : ℕ) → j < n → reserved_at b (size_of (i + j)) ≡ 0
unfolding check_records
zeros m b zero low i e j h = absurd (omega arith)
zeros m b (suc n) low i e zero h =
    let p = went_on (judge m b low i) i _ e in
    let k : i + 0 ≡ i = omega arith in
    ap (λ (l : ℕ). reserved_at b (size_of l)) k ∙ (judge_zero m b low i p.0).1
zeros m b (suc n) low i e (suc j) h =
    let p = went_on (judge m b low i) i _ e in
    let k : i + suc j ≡ suc i + j = omega arith in
    ap (λ (l : ℕ). reserved_at b (size_of l)) k ∙ zeros m b n (suc (call_key (record_at b i))) (suc i) p.1 j (omega arith)

rise : (m : ℕ) (b : List ℕ) (n low i : ℕ) → check_records m b low i n ≡ accepted → Rises low (calls_from b i n)
unfolding check_records calls_from
rise m b zero low i e = tt
rise m b (suc n) low i e =
    let p = went_on (judge m b low i) i _ e in
    ((judge_zero m b low i p.0).2, rise m b n (suc (call_key (record_at b i))) (suc i) p.1)

module _ (b : List ℕ) (e : IsAccepted b) where
  pub long : 16 ≤ length b
  long = (accepted_tests b e).long

  pub few : count_at b ≤ most_keys
  few = accepted_few b e

  pub size : length b ≡ size_of (count_at b)
  size = (accepted_tests b e).count

  pub has : (i : ℕ) → i < count_at b → RecordLies b (size_of i)
  has i h =
      record {
        long = omega (arith, size);
        zeros =
            ap (λ (j : ℕ). reserved_at b (size_of j)) (sym (zero-add i))
            ∙ zeros (header_minutes (header_at b)) b (count_at b) 0 0 (accepted_tests b e).records i h;
      }

  -- its keys rise
  pub keys_rise : Rises 0 (calls_of b)
  unfolding calls_of
  keys_rise = rise (header_minutes (header_at b)) b (count_at b) 0 0 (accepted_tests b e).records
