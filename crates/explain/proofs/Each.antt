-- Which part is of which record. Assumes nothing.
use mathlib.Core.Path.{◌≡◌, refl, sym, ◌∙◌}
use mathlib.Core.Bool.{Bool, true, false}
use mathlib.Core.List.{List, [], ◌∷◌}
use mathlib.Core.Logic.{◌⊎◌, inl, inr}
use Prim.Native.Nat.{ℕ, zero, suc, ◌≤◌, ◌<◌}
use native.Mathlib.Nat.{not-suc-le-zero}
use native.Mathlib.Decide.{dec_lt}
use native.Mathlib.Omega.{arith}
use lib.ListN.{length, get_or, length-append, get_or-append}
use lib.Seq.{get_or-append_seam}
use Rattle.book.specs.Book.{record_at}
use Rattle.pay.specs.declared.Member.{Member}
use Rattle.score.specs.Scoring.{is_own_live}
use Rattle.explain.specs.declared.CallPart.{CallPart}
use Rattle.explain.specs.Explaining.{call_part, own_part, blank_part}
use Rattle.explain.specs.Inner.{parts_before}
use Rattle.explain.proofs.Before.{before_none, before_suc, before_own, before_other}

-- part p is that of its record, a live call of the member before record n
pub record OfRecord (m : Member) (b series : List ℕ) (n : ℕ) (p : CallPart) : Type 0 where
  pub low : p.place < n
  pub own : is_own_live m (record_at b p.place) ≡ true
  pub is : p ≡ call_part m series p.place (record_at b p.place)

-- one of the first n records has the part with this index
pub record Indexed (m : Member) (b series : List ℕ) (n i : ℕ) : Type 0 where
  pub index : ℕ
  pub low : index < length (parts_before m b series n)
  pub place : (get_or (parts_before m b series n) index blank_part).place ≡ i

module _ (m : Member) (b series : List ℕ) where
  abbrev before : ℕ → List CallPart
  before n = parts_before m b series n

  abbrev at : ℕ → ℕ → CallPart
  at n k = get_or (before n) k blank_part

  -- the parts of fewer records stay where they are
  old : (n k : ℕ) → k < length (before n) → at (suc n) k ≡ at n k
  old n k l = rw (before_suc m b series n) (get_or-append (before n) (own_part m series n (record_at b n)) blank_part k l)

  longer : (n : ℕ) → length (before n) ≤ length (before (suc n))
  longer n = rw (before_suc m b series n) (omega (arith, length-append (before n) (own_part m series n (record_at b n))))

  -- a live call of the member has the next one
  module _ (n : ℕ) (h : is_own_live m (record_at b n) ≡ true) where
    new : at (suc n) (length (before n)) ≡ call_part m series n (record_at b n)
    new = rw (before_own m b series n h) (get_or-append_seam (before n) (call_part m series n (record_at b n)) [] blank_part)

    one_more : length (before (suc n)) ≡ suc (length (before n))
    one_more = rw (before_own m b series n h) (omega (arith, length-append (before n) (call_part m series n (record_at b n) ∷ [])))

  -- a part of n + 1 records is one of n, or the last record's
  abbrev Split : ℕ → ℕ → Type 0
  Split n k = (k < length (before n)) ⊎ ((is_own_live m (record_at b n) ≡ true) × (k ≡ length (before n)))

  split : (n k : ℕ) → k < length (before (suc n)) → Split n k
  split n k l = go (is_own_live m (record_at b n)) refl (dec_lt k (length (before n)))
    where
      go : (t : Bool) → is_own_live m (record_at b n) ≡ t → Dec (k < length (before n)) → Split n k
      go t h (yes d) = inl d
      go true h (no d) = inr (h, omega (arith, one_more n h))
      go false h (no d) = absurd (d (rw (before_other m b series n h) at l))

  place_new : (n : ℕ) → (call_part m series n (record_at b n)).place ≡ n
  unfolding call_part
  place_new n = refl

  of_new : (n : ℕ) → is_own_live m (record_at b n) ≡ true → OfRecord m b series (suc n) (call_part m series n (record_at b n))
  unfolding call_part
  of_new n h = record { low = omega arith; own = h; is = refl }

  pub of_record : (n k : ℕ) → k < length (before n) → OfRecord m b series n (at n k)
  of_record zero k l = absurd (not-suc-le-zero (rw (before_none m b series) at l))
  of_record (suc n) k l = go (split n k l) (of_record n k)
    where
      go : Split n k → (k < length (before n) → OfRecord m b series n (at n k)) → OfRecord m b series (suc n) (at (suc n) k)
      go (inl d) ih = rw (old n k d) (let p = ih d in record { low = omega (arith, p.low); own = p.own; is = p.is })
      go (inr (h, e)) ih = rw (e, new n h) (of_new n h)

  pub indexed : (n i : ℕ) → i < n → is_own_live m (record_at b i) ≡ true → Indexed m b series n i
  indexed zero i l h = absurd (not-suc-le-zero l)
  indexed (suc n) i l h = go (dec_lt i n) (λ d. indexed n i d h)
    where
      go : Dec (i < n) → (i < n → Indexed m b series n i) → Indexed m b series (suc n) i
      go (yes d) ih =
          let p = ih d in
          record { index = p.index; low = omega (arith, p.low, longer n); place = rw (old n p.index p.low) p.place }
      go (no d) ih =
          let e : i ≡ n = omega arith in
          let q : is_own_live m (record_at b n) ≡ true = rw e at h in
          record { index = length (before n); low = omega (arith, one_more n q); place = rw (new n q) (place_new n ∙ sym e) }

  pub rising : (n j k : ℕ) → j < k → k < length (before n) → (at n j).place < (at n k).place
  rising zero j k d l = absurd (not-suc-le-zero (rw (before_none m b series) at l))
  rising (suc n) j k d l = go (split n k l) (rising n j k d)
    where
      go : Split n k → (k < length (before n) → (at n j).place < (at n k).place) → (at (suc n) j).place < (at (suc n) k).place
      go (inl e) ih = rw (old n k e, old n j (omega arith)) (ih e)
      go (inr (h, e)) ih =
          let f : j < length (before n) = omega arith in
          rw (old n j f, e, new n h, place_new n) (of_record n j f).low
