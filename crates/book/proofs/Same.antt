-- Two sound books that say the same have the same records, whatever their versions. Assumes nothing.
use mathlib.Core.Path.{◌≡◌, sym, ◌∙◌, ap}
use mathlib.Core.List.{List, ◌++◌}
use Prim.Native.Nat.{ℕ, ◌+◌, ◌*◌}
use native.Mathlib.Omega.{arith}
use lib.ListN.{length}
use Rattle.call.specs.declared.Call.{Call}
use Rattle.call.specs.Layout.{record_size, call_at}
use Rattle.call.proofs.Bytes.{call_behind}
use Rattle.book.specs.declared.Header.{Header}
use Rattle.book.specs.Book.{place_of, version_at, header_at, count_at, record_at, calls_of, head_bytes, record_bytes, book_bytes}
use Rattle.book.specs.Sound.{Sound, SaysSame}
use Rattle.book.proofs.Lengths.{length_head}
use Rattle.book.proofs.Records.{length_calls}
use Rattle.book.proofs.Exact.{sound_again}

-- a record lies behind the header, which alone has the version
record_of : (v : ℕ) (h : Header) (cs : List Call) (i : ℕ) → record_at (book_bytes v h cs) i ≡ call_at (record_bytes cs) (record_size * i)
unfolding record_at book_bytes
record_of v h cs i =
    let head = head_bytes v h (length cs) in
    let place : place_of i ≡ length head + record_size * i = omega (arith, length_head v h (length cs)) in
    ap (call_at (head ++ record_bytes cs)) place ∙ call_behind head (record_bytes cs) (record_size * i)

module _ (b b' : List ℕ) (s : Sound b) (s' : Sound b') (e : SaysSame b b') where
  pub same_records : record_at b ≡ record_at b'
  same_records =
      let at : (i : ℕ) → record_at b i ≡ record_at b' i =
      λ i.
      ap (λ (x : List ℕ). record_at x i) (sound_again b s) ∙ record_of (version_at b) (header_at b) (calls_of b) i
      ∙ ap (λ (cs : List Call). call_at (record_bytes cs) (record_size * i)) e.calls
      ∙ sym (ap (λ (x : List ℕ). record_at x i) (sound_again b' s') ∙ record_of (version_at b') (header_at b') (calls_of b') i) in
      λ j i. at i j

  pub same_count : count_at b ≡ count_at b'
  unfolding calls_of
  same_count = sym (length_calls b (count_at b) 0) ∙ ap length e.calls ∙ length_calls b' (count_at b') 0
