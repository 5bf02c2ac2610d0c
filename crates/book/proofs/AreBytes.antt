-- A sound book is a list of bytes. Assumes nothing.
use mathlib.Core.List.{List, [], ◌∷◌, ◌++◌}
use Prim.Native.Nat.{ℕ, zero, suc, ◌/◌, ◌%◌, ◌<◌}
use native.Mathlib.Omega.{arith}
use lib.Dec.{lit<}
use lib.ListN.{length}
use Rattle.le.specs.Le.{le_bytes, IsBytes}
use Rattle.call.specs.declared.Call.{Call}
use Rattle.call.specs.Layout.{call_bytes, key_bytes, time_bytes, term_bytes}
use Rattle.book.specs.declared.Header.{Header}
use Rattle.book.specs.Book.{mark_bytes, date_bytes, count_bytes, head_bytes, record_bytes, book_bytes}
use Rattle.book.specs.Sound.{Sound}

none_bytes : IsBytes []
unfolding IsBytes
none_bytes i = lit< tt

one_more : (x : ℕ) (xs : List ℕ) → x < 256 → IsBytes xs → IsBytes (x ∷ xs)
unfolding IsBytes
one_more x xs l h zero = l
one_more x xs l h (suc i) = h i

both_bytes : (xs ys : List ℕ) → IsBytes xs → IsBytes ys → IsBytes (xs ++ ys)
unfolding IsBytes
both_bytes [] ys h k = k
both_bytes (x ∷ xs) ys h k = one_more x (xs ++ ys) (h 0) (both_bytes xs ys (λ i. h (suc i)) k)

le_bytes_lem : (w v : ℕ) → IsBytes (le_bytes w v)
unfolding le_bytes
le_bytes_lem zero v = none_bytes
le_bytes_lem (suc w) v = one_more (v % 256) (le_bytes w (v / 256)) (omega arith) (le_bytes_lem w (v / 256))

call_bytes_lem : (c : Call) → IsBytes (call_bytes c)
unfolding call_bytes key_bytes time_bytes term_bytes
call_bytes_lem c =
    let at : (w v : ℕ) → IsBytes (le_bytes w v) = le_bytes_lem in
    both_bytes _ _ (both_bytes _ _
    (both_bytes _ _ (both_bytes _ _ (both_bytes _ _ (at 2 _) (at 1 _)) (at 1 _)) (at 4 _))
    (both_bytes _ _ (both_bytes _ _ (at 4 _) (at 2 _)) (at 2 _)))
    (both_bytes _ _ (both_bytes _ _ (both_bytes _ _ (at 4 _) (at 4 _)) (at 4 _)) (at 4 _))

records_bytes : (cs : List Call) → IsBytes (record_bytes cs)
unfolding record_bytes
records_bytes [] = none_bytes
records_bytes (c ∷ cs) = both_bytes (call_bytes c) (record_bytes cs) (call_bytes_lem c) (records_bytes cs)

head_bytes_lem : (v : ℕ) (h : Header) (n : ℕ) → IsBytes (head_bytes v h n)
unfolding head_bytes mark_bytes date_bytes count_bytes
head_bytes_lem v h n =
    let at : (w x : ℕ) → IsBytes (le_bytes w x) = le_bytes_lem in
    both_bytes _ _ (both_bytes _ _
    (both_bytes _ _ (one_more 78 _ (lit< tt) (one_more 87 _ (lit< tt) (one_more 66 _ (lit< tt) none_bytes))) (at 1 _))
    (both_bytes _ _ (both_bytes _ _ (both_bytes _ _ (at 2 _) (at 2 _)) (at 1 _)) (at 1 _)))
    (both_bytes _ _ (at 2 _) (at 4 _))

pub book_bytes_lem : (v : ℕ) (h : Header) (cs : List Call) → IsBytes (book_bytes v h cs)
unfolding book_bytes
book_bytes_lem v h cs = both_bytes (head_bytes v h (length cs)) (record_bytes cs) (head_bytes_lem v h (length cs)) (records_bytes cs)

pub sound_bytes : (b : List ℕ) → Sound b → IsBytes b
sound_bytes b s = rw s.bytes (book_bytes_lem s.version s.header s.calls)
