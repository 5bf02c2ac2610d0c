-- How long the parts of a book are. Assumes nothing.
use mathlib.Core.Path.{◌≡◌, refl, ◌∙◌}
use mathlib.Core.List.{List, [], ◌∷◌}
use Prim.Native.Nat.{ℕ, ◌*◌}
use native.Mathlib.Omega.{arith}
use lib.ListN.{length, length-append}
use Rattle.le.specs.Le.{le_bytes}
use Rattle.call.specs.declared.Call.{Call}
use Rattle.call.specs.Layout.{record_size, call_bytes}
use Rattle.call.proofs.Bytes.{length_call}
use Rattle.book.specs.declared.Header.{Header}
use Rattle.book.specs.Book.{header_size, size_of, mark_bytes, date_bytes, count_bytes, head_bytes, record_bytes, book_bytes}

pub length_head : (v : ℕ) (h : Header) (n : ℕ) → length (head_bytes v h n) ≡ header_size
unfolding head_bytes mark_bytes date_bytes count_bytes le_bytes
length_head v h n = refl

pub length_records : (cs : List Call) → length (record_bytes cs) ≡ record_size * length cs
unfolding record_bytes
length_records [] = refl
length_records (c ∷ cs) = length-append (call_bytes c) (record_bytes cs) ∙ omega (arith, length_records cs, length_call c)

pub length_book : (v : ℕ) (h : Header) (cs : List Call) → length (book_bytes v h cs) ≡ size_of (length cs)
unfolding book_bytes
length_book v h cs = length-append (head_bytes v h (length cs)) (record_bytes cs) ∙ omega (arith, length_head v h (length cs), length_records cs)
