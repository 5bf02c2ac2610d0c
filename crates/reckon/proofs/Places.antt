-- The places of a member's windows: how a pass over the records finds them. Assumes nothing.
use mathlib.Core.Path.{◌≡◌, refl, sym, ◌∙◌, ap}
use mathlib.Core.Bool.{Bool, true, false, cond}
use mathlib.Core.List.{List, [], ◌∷◌, ◌++◌, append-nil, append_assoc, map-append}
use Prim.Native.Nat.{ℕ, zero, suc, ◌+◌, ◌≤◌, ◌<◌}
use native.Mathlib.Nat.{not-suc-le-zero, add-zero, zero-add}
use native.Mathlib.Numerals.{add-one}
use native.Mathlib.Decide.{dec_lt}
use native.Mathlib.Omega.{arith}
use lib.ListN.{get_or, length, take, set, length-append, get_or-append}
use lib.Seq.{take-suc-set, get_or-append_seam}
use Rattle.call.specs.declared.Call.{Call}
use Rattle.book.specs.Book.{size_of, record_at, calls_from}
use Rattle.pay.specs.declared.Member.{Member}
use Rattle.reckon.specs.Reckoning.{is_window, windows_of}
use Rattle.reckon.specs.Inner.{places_of, Placed, calls_at}

module _ (m : Member) (service : ℕ) (b : List ℕ) where
  abbrev book : ℕ → Call
  book = record_at b

  abbrev places : ℕ → List ℕ
  places n = places_of m service book n

  pub places_none : places 0 ≡ []
  unfolding places_of
  places_none = refl

  places_yes : (n : ℕ) → is_window m service (book n) ≡ true → places (suc n) ≡ places n ++ n ∷ []
  unfolding places_of
  places_yes n h = rw h refl

  places_no : (n : ℕ) → is_window m service (book n) ≡ false → places (suc n) ≡ places n
  unfolding places_of
  places_no n h = rw h (append-nil (places n))

  pub places_few : (n : ℕ) → length (places n) ≤ n
  places_few zero = rw places_none (omega arith)
  places_few (suc n) = go (is_window m service (book n)) refl (places_few n)
    where
      go : (t : Bool) → is_window m service (book n) ≡ t → length (places n) ≤ n → length (places (suc n)) ≤ suc n
      go true h l = rw (places_yes n h) (omega (arith, length-append (places n) (n ∷ [])))
      go false h l = rw (places_no n h) (omega arith)

  -- each is below n
  places_low : (n k : ℕ) → k < length (places n) → get_or (places n) k 0 < n
  places_low zero k l = absurd (not-suc-le-zero (rw places_none at l))
  places_low (suc n) k l = go (is_window m service (book n)) refl (places_low n k) (dec_lt k (length (places n)))
    where
      last : is_window m service (book n) ≡ true → (k < length (places n) → ⊥) → k ≡ length (places n)
      last h d = omega (arith, rw (places_yes n h) at l, length-append (places n) (n ∷ []))

      go : (t : Bool) → is_window m service (book n) ≡ t → (k < length (places n) → get_or (places n) k 0 < n) → Dec (k < length (places n)) → get_or (places (suc n)) k 0 < suc n
      go true h ih (yes d) = rw (places_yes n h, get_or-append (places n) (n ∷ []) 0 k d) (omega (arith, ih d))
      go true h ih (no d) = rw (places_yes n h, last h d, get_or-append_seam (places n) n [] 0) (omega arith)
      go false h ih d = rw (places_no n h) (omega (arith, ih (rw (places_no n h) at l)))

  -- so a book that has n records has those
  pub places_placed : (n : ℕ) → size_of n ≤ length b → Placed b (places n)
  places_placed n h k l = omega (arith, places_low n k l)

  -- the calls there are the windows among the calls
  calls_from_lem : (i k : ℕ) → calls_at b (places i) ++ windows_of m service (calls_from b i k) ≡ calls_at b (places (i + k))
  unfolding windows_of calls_from
  calls_from_lem i zero = rw add-zero (append-nil (calls_at b (places i)))
  calls_from_lem i (suc k) = go (is_window m service (book i)) refl (calls_from_lem (suc i) k)
    where
      e : i + suc k ≡ suc i + k
      e = omega arith

      rest : List Call
      rest = windows_of m service (calls_from b (suc i) k)

      go : (t : Bool) → is_window m service (book i) ≡ t → calls_at b (places (suc i)) ++ windows_of m service (calls_from b (suc i) k) ≡ calls_at b (places (suc i + k))
          → calls_at b (places i) ++ cond t (book i ∷ windows_of m service (calls_from b (suc i) k)) (windows_of m service (calls_from b (suc i) k)) ≡ calls_at b (places (i + suc k))
      go true h ih =
          rw e (sym (append_assoc (calls_at b (places i)) (book i ∷ []) (windows_of m service (calls_from b (suc i) k)))
          ∙ ap (λ (xs : List Call). xs ++ windows_of m service (calls_from b (suc i) k)) (sym (map-append book (places i) (i ∷ [])) ∙ ap (calls_at b) (sym (places_yes i h))) ∙ ih)
      go false h ih = rw e (ap (λ (ps : List ℕ). calls_at b ps ++ windows_of m service (calls_from b (suc i) k)) (sym (places_no i h)) ∙ ih)

  pub calls_there : (n : ℕ) → calls_at b (places n) ≡ windows_of m service (calls_from b 0 n)
  calls_there n =
      sym (ap (λ (ps : List ℕ). calls_at b ps ++ windows_of m service (calls_from b 0 n)) (sym places_none) ∙ calls_from_lem 0 n ∙ ap (λ (k : ℕ). calls_at b (places k)) (zero-add n))

  -- one record more: where it is a window, its place is put down behind the others
  pub next_yes : (at : List ℕ) (count i : ℕ) → take count at ≡ places i → count < length at → is_window m service (book i) ≡ true → take (count + 1) (set at count i) ≡ places (i + 1)
  next_yes at count i p l h = rw (add-one count, add-one i) (take-suc-set at count i l ∙ rw (p, places_yes i h) refl)

  pub next_no : (i : ℕ) → is_window m service (book i) ≡ false → places (i + 1) ≡ places i
  next_no i h = rw (add-one i) (places_no i h)
