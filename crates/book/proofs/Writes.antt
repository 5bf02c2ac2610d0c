-- Laws of writing. Assumes nothing.
use mathlib.Core.Path.{◌≡◌, refl, sym, ◌∙◌, ap}
use mathlib.Core.Bool.{Bool, true, false, cond, not, and-true}
use mathlib.Core.List.{List, [], ◌∷◌, ◌++◌, append-nil, append_assoc}
use Prim.Native.Nat.{ℕ, ◌+◌, ◌≤◌}
use native.Mathlib.Nat.{zero-add}
use native.Mathlib.Omega.{arith}
use lib.Dec.{eqb, ltb}
use lib.ListN.{length, take, drop}
use lib.Seq.{sets-eq, length-take-le}
use borrow.Author.Tests.{ltb-false, eq-eqb, ne_eqb}
use Rattle.le.specs.Le.{Stores}
use Rattle.le.proofs.Laws.{then}
use Rattle.call.specs.declared.Call.{Call}
use Rattle.call.specs.Limits.{call_is_sound}
use Rattle.call.specs.Layout.{call_bytes, reserved_at}
use Rattle.call.proofs.Bytes.{Sized, length_call}
use Rattle.book.specs.declared.Header.{Header}
use Rattle.book.specs.Book.{first_version, header_size, size_of, place_of, record_at, head_bytes, record_bytes, book_bytes}
use Rattle.book.specs.Check.{header_is_sound, header_minutes, is_record, judge, check_records}
use Rattle.book.specs.Write.{refused_out, sound_calls, fault, write_fault, writing}
use Rattle.book.proofs.Lengths.{length_head, length_book}
use Rattle.book.proofs.Records.{record_back, zeros_back, judge_good}

module _ (h : Header) (cs : List Call) (out : List ℕ) where
  -- the number that is not 0 comes out, and the output as it was
  pub refuses : (n : ℕ) → n ≡ write_fault h cs (length out) → (n ≡ 0 → ⊥) → refused_out n 0 out ≡ writing h cs out
  unfolding writing
  refuses n e z = rw (← e, ne_eqb n 0 z) refl

  -- no number: the book is stored at the start of the output
  pub writes : (n len : ℕ) (after : List ℕ) → n ≡ write_fault h cs (length out) → n ≡ 0 → len ≡ size_of (length cs) → size_of (length cs) ≤ length out
      → Stores out 0 (book_bytes first_version h cs) after → record { number = 0; place = 0; size = len; out = after } ≡ writing h cs out
  unfolding writing
  writes n len after e z k room s =
      let book = book_bytes first_version h cs in
      let size = length_book first_version h cs in
      let bytes = s.is ∙ sets-eq book out 0 (omega (arith, size)) ∙ ap (λ (j : ℕ). book ++ drop j out) (zero-add (length book)) in
      rw (← e, eq-eqb n 0 z) (λ i. record { number = 0; place = 0; size = (k ∙ sym size) i; out = bytes i })

-- where nothing is refused there is room
pub room_of : (h : Header) (cs : List Call) (room : ℕ) → write_fault h cs room ≡ 0 → size_of (length cs) ≤ room
unfolding write_fault
room_of h cs room e = ltb-false _ _ (tests (header_is_sound h) (sound_calls (header_minutes h) cs) (ltb room (size_of (length cs))) e)
  where
    tests : (t u v : Bool) → ◌≡◌ {A = ℕ} (cond (not t) 4 (cond (not u) 5 (cond v 9 0))) 0 → v ≡ false
    tests true true false e = refl
    tests true true true e = absurd (omega arith)
    tests true false v e = absurd (omega arith)
    tests false u v e = absurd (omega arith)

-- a book of none, a book of one
pub fault_none : (h : Header) (room : ℕ) → fault h true header_size room ≡ write_fault h [] room
unfolding write_fault sound_calls
fault_none h room = refl

pub fault_one : (h : Header) (c : Call) (room : ℕ) → fault h (call_is_sound (header_minutes h) c) (size_of 1) room ≡ write_fault h (c ∷ []) room
unfolding write_fault sound_calls
fault_one h c room = rw (and-true (call_is_sound (header_minutes h) c)) refl

pub stores_none : (h : Header) {out after : List ℕ} → Stores out 0 (head_bytes first_version h 0) after → Stores out 0 (book_bytes first_version h []) after
unfolding book_bytes record_bytes
stores_none h s = rw append-nil s

pub stores_one : (h : Header) (c : Call) {out mid after : List ℕ} → Stores out 0 (head_bytes first_version h 1) mid → Stores mid header_size (call_bytes c) after
    → Stores out 0 (book_bytes first_version h (c ∷ [])) after
unfolding book_bytes record_bytes
stores_one h c s t = rw append-nil (then header_size (omega (arith, length_head first_version h 1)) s t)

-- A record's one turn, of any key: it passes exactly where the call is sound
one_turn : (m : ℕ) (b : List ℕ) (c : Call) → record_at b 0 ≡ c → reserved_at b (place_of 0) ≡ 0 → eqb (check_records m b 0 0 1).number 0 ≡ call_is_sound m c
unfolding check_records judge is_record
one_turn m b c e z = at (call_is_sound m c) refl
  where
    at : (t : Bool) → call_is_sound m c ≡ t → eqb (check_records m b 0 0 1).number 0 ≡ call_is_sound m c
    at true s = rw (s, judge_good m b 0 0 (ap (call_is_sound m) e ∙ s) z (omega arith)) refl
    at false s = rw (s, ap (call_is_sound m) e ∙ s) refl

-- so does the record that is written behind sixteen bytes of a page
pub passes_alone : (m : ℕ) (c : Call) {page after : List ℕ} → Sized c → size_of 1 ≤ length page → Stores page header_size (call_bytes c) after
    → eqb (check_records m after 0 0 1).number 0 ≡ call_is_sound m c
passes_alone m c {page} {after} s room w =
    let p = take header_size page in
    let t = drop (header_size + length (call_bytes c)) page in
    let l : length p ≡ size_of 0 = length-take-le header_size page (omega arith) in
    let is : after ≡ p ++ (call_bytes c ++ t) = w.is ∙ sets-eq (call_bytes c) page header_size (omega (arith, length_call c)) ∙ append_assoc p (call_bytes c) t in
    rw is (one_turn m (p ++ (call_bytes c ++ t)) c (record_back p 0 l c t s) (zeros_back p 0 l c t))
