-- The 32 bytes of a sound record, copied, are its encoding; what is copied is stored. Assumes nothing.
use mathlib.Core.Path.{◌≡◌, refl, sym, ◌∙◌, ap}
use mathlib.Core.List.{List, ◌++◌}
use Prim.Native.Nat.{ℕ, zero, suc, ◌+◌, ◌≤◌}
use native.Mathlib.Omega.{arith}
use lib.ListN.{length, take, drop}
use lib.Seq.{take_at, take-add, drop-drop}
use Rattle.std.proofs.lemmas.List.{append_assoc}
use Rattle.std.proofs.lemmas.List.Edits.{sets-eq}
use borrow.Rule.Slice.PartMut.{put_mid}
use Rattle.le.specs.Le.{le_at, le_bytes, IsBytes, Stores}
use Rattle.le.proofs.Laws.{bytes_at, again, cat, split}
use Rattle.call.specs.Layout.{reserved_at, call_at, call_bytes}
use Rattle.call.proofs.Bytes.{length_call, record_again}
use Rattle.join.specs.declared.Words.{Words}
use Rattle.join.specs.Steps.{RecordLies, Spells, word_bytes}

length_bytes : (w : ℕ) (s : List ℕ) (o : ℕ) → length (bytes_at s o w) ≡ w
unfolding bytes_at
length_bytes zero s o = refl
length_bytes (suc w) s o = ap suc (length_bytes w s (o + 1))

-- a sound record's 32 bytes are its encoding
pub record_part : (s : List ℕ) → IsBytes s → (o : ℕ) → o + 32 ≤ length s → reserved_at s o ≡ 0 → take 32 (drop o s) ≡ call_bytes (call_at s o)
record_part s small o h z = ap (take 32) (record_again s small o h z) ∙ take_at (call_bytes (call_at s o)) (drop (o + 32) s) 32 (length_call (call_at s o))

-- eight bytes read and written again are a part of eight bytes
pub eight_bytes : (s : List ℕ) → IsBytes s → (o : ℕ) → o + 8 ≤ length s → le_bytes 8 (le_at s o 8) ≡ take 8 (drop o s)
eight_bytes s small o h =
    again 8 s o small ∙ sym (take_at (bytes_at s o 8) (drop (o + 8) s) 8 (length_bytes 8 s o)) ∙ ap (take 8) (sym (split 8 s o h))

-- four times eight bytes of a sound record are its encoding
pub words_record : (s : List ℕ) → IsBytes s → (o : ℕ) → RecordLies s o → (w : Words) → Spells s o w → word_bytes w ≡ call_bytes (call_at s o)
words_record s small o whole w e =
    let h = whole.long in
    cat
    (cat (cat (ap (le_bytes 8) e.who ∙ eight_bytes s small o (omega arith)) (ap (le_bytes 8) e.time ∙ eight_bytes s small (o + 8) (omega arith)))
    (ap (le_bytes 8) e.terms ∙ eight_bytes s small (o + 16) (omega arith)))
    (ap (le_bytes 8) e.rest ∙ eight_bytes s small (o + 24) (omega arith))
    ∙ sym (more 24 ∙ ap (λ (l : List ℕ). l ++ take 8 (drop (o + 24) s)) (more 16 ∙ ap (λ (l : List ℕ). l ++ take 8 (drop (o + 16) s)) (more 8)))
    ∙ record_part s small o h whole.zeros
  where
    more : (k : ℕ) → take (k + 8) (drop o s) ≡ take k (drop o s) ++ take 8 (drop (o + k) s)
    more k = take-add k 8 (drop o s) ∙ ap (λ (l : List ℕ). take k (drop o s) ++ take 8 l) (drop-drop k o s)

-- bytes copied into a part of a slice are stored at its place
pub copied : (s : List ℕ) (at n : ℕ) (xs : List ℕ) → length xs ≡ n → at + n ≤ length s → Stores s at xs (put_mid at n s xs)
copied s at n xs e h =
    let g : at + length xs ≤ length s = omega arith in
    record {
      is =
          ap (λ (t : List ℕ). take at s ++ (xs ++ t)) (drop-drop n at s)
          ∙ sym (append_assoc (take at s) xs (drop (at + n) s))
          ∙ ap (λ (k : ℕ). take at s ++ xs ++ drop (at + k) s) (sym e)
          ∙ sym (sets-eq xs s at g);
    }
