-- The outcome of a join, from its parts. Assumes nothing.
use mathlib.Core.Path.{◌≡◌, sym, ◌∙◌, ap}
use mathlib.Core.List.{List, ◌++◌, append_assoc}
use Prim.Native.Nat.{ℕ, ◌+◌, ◌≤◌}
use native.Mathlib.Nat.{zero-add}
use native.Mathlib.Omega.{arith}
use lib.ListN.{length, take, drop, length-append}
use lib.Seq.{sets, sets-eq, length-sets, drop_at, length-take-le}
use Rattle.le.specs.Le.{Stores}
use Rattle.call.specs.declared.Call.{Call}
use Rattle.book.specs.declared.Header.{Header}
use Rattle.book.specs.Book.{size_of, head_bytes, record_bytes, book_bytes}
use Rattle.book.proofs.Lengths.{length_head, length_records, length_book}
use Rattle.join.specs.Joining.{join_outcome, join_wrote}

-- bytes stored behind a front, and then the front, are stored as one run
front_last : (xs ys l : List ℕ) → length xs + length ys ≤ length l → sets (sets l (length xs) ys) 0 xs ≡ sets l 0 (xs ++ ys)
front_last xs ys l h =
    let n = length xs in
    let e = n + length ys in
    let mid : sets l n ys ≡ take n l ++ (ys ++ drop e l) = sets-eq ys l n h ∙ append_assoc (take n l) ys (drop e l) in
    let behind : drop n (sets l n ys) ≡ ys ++ drop e l = ap (drop n) mid ∙ drop_at (take n l) (ys ++ drop e l) n (length-take-le n l (omega arith)) in
    sets-eq xs (sets l n ys) 0 (omega (arith, length-sets l n ys))
    ∙ ap (λ (k : ℕ). xs ++ drop k (sets l n ys)) (zero-add n)
    ∙ ap (λ (r : List ℕ). xs ++ r) behind
    ∙ sym (append_assoc xs ys (drop e l))
    ∙ ap (λ (k : ℕ). (xs ++ ys) ++ drop k l) (sym (zero-add (length (xs ++ ys)) ∙ length-append xs ys))
    ∙ sym (sets-eq (xs ++ ys) l 0 (omega (arith, length-append xs ys)))

-- the records behind the header's place, and then a header with their number, are a book
pub stores_book : (v : ℕ) (h : Header) (cs : List Call) (n : ℕ) (out mid after : List ℕ) → n ≡ length cs → size_of (length cs) ≤ length out
    → Stores out 16 (record_bytes cs) mid → Stores mid 0 (head_bytes v h n) after → Stores out 0 (book_bytes v h cs) after
unfolding book_bytes
stores_book v h cs n out mid after e room s t =
    let head = head_bytes v h (length cs) in
    let long : length head ≡ 16 = length_head v h (length cs) in
    record {
      is =
          t.is ∙ ap (λ (k : ℕ). sets mid 0 (head_bytes v h k)) e
          ∙ ap (λ (l : List ℕ). sets l 0 head) (s.is ∙ ap (λ (k : ℕ). sets out k (record_bytes cs)) (sym long))
          ∙ front_last head (record_bytes cs) out (omega (arith, length_records cs));
    }

pub as_written : (v : ℕ) (h : Header) (cs : List Call) (n : ℕ) (out after : List ℕ) (t : ℕ) → n ≡ length cs → n ≡ t → size_of n ≤ length out
    → Stores out 0 (book_bytes v h cs) after
    → join_outcome (record { number = 0; place = 0; length = size_of n; turns = n }) after ≡ join_wrote (book_bytes v h cs) t out
as_written v h cs n out after t e f room s =
    let size = length_book v h cs in
    let bytes : after ≡ book_bytes v h cs ++ drop (length (book_bytes v h cs)) out =
    s.is ∙ sets-eq (book_bytes v h cs) out 0 (omega (arith, size)) ∙ ap (λ (j : ℕ). book_bytes v h cs ++ drop j out) (zero-add (length (book_bytes v h cs))) in
    λ i. join_outcome (record { number = 0; place = 0; length = (ap size_of e ∙ sym size) i; turns = f i }) (bytes i)
