-- The three forms give the same answer, two outcomes over bytes that the contract allows are one, and a refusal changes no byte. Assumes nothing.
use mathlib.Core.Path.{◌≡◌, refl, sym, ap, ◌∙◌}
use mathlib.Core.List.{List, [], ◌∷◌}
use mathlib.Core.Logic.{◌≢◌}
use Prim.Native.Nat.{ℕ, suc, ◌+◌, ◌*◌, ◌/◌, ◌%◌, ◌≤◌, ◌<◌}
use native.Mathlib.Omega.{arith}
use lib.ListN.{length, get_or, set, take, length-map}
use lib.Seq.{sets, get_or-set_other}
use Rattle.share.specs.declared.Line.{Line}
use Rattle.share.specs.declared.Answer.{Answer}
use Rattle.share.specs.Sharing.{Part, SharingOutcome, sharing}
use Rattle.share.specs.Forms.{cleared, fill_in, clear, shared_array, answer_in, answer_of, Lent}
use Rattle.share_bytes.specs.Bytes.{line_size, part_size, parts_bytes, parts_written, sharing_bytes, BytesShared}
use Rattle.share_bytes.specs.Inner.{line_at}
use Rattle.share_bytes.proofs.Spelling.{length_lines, length_parts_bytes}
use Rattle.share_bytes.proofs.Reading.{read, turn_read}
use Rattle.share_bytes.proofs.ByteCases.{none_written, bytes_enough}
use Rattle.share.proofs.TwoForms.{sharing_cleared, array_as_list}

-- The byte form and the lent list give one outcome: bytes that spell the lines, and room for what is written.
pub bytes_as_list : (part : ℕ) (ls : List Line) (input : List ℕ) (room : ℕ) → length input % line_size ≡ 0 → read input ≡ clear ls → part_size * length ls + part_size ≤ room
    → sharing_bytes part input room ≡ sharing part ls
bytes_as_list part ls input room m e h =
    let long : length input / line_size ≡ length ls =
    sym (length_lines (line_at input) 0 (length input / line_size)) ∙ ap length e ∙ length-map ls (λ l. cleared l) in
    bytes_enough part input room m (omega (arith, long)) ∙ sym (turn_read input part) ∙ ap (sharing part) e ∙ sharing_cleared part ls

-- THE SAME ANSWER of the three forms, over one and the same lines.
pub same_answer : (part : ℕ) (ls lines : List Line) (input : List ℕ) (room : ℕ) → clear (take (length ls) lines) ≡ clear (take 64 ls)
    → length input % line_size ≡ 0 → read input ≡ clear ls → part_size * length ls + part_size ≤ room → (after : List Line) (r : Answer) → Lent part ls after r
    → (r ≡ answer_in (shared_array part lines (length ls))) × (r ≡ answer_of (sharing_bytes part input room))
    × (fill_in (sharing part ls).parts (clear lines) ≡ (shared_array part lines (length ls)).lines) × ((sharing part ls).parts ≡ (sharing_bytes part input room).parts)
unfolding shared_array
same_answer part ls lines input room t m s h after r l =
    let a = array_as_list part ls lines t in
    let b = bytes_as_list part ls input room m s h in (
      l.says ∙ ap answer_of (sym a),
      l.says ∙ ap answer_of (sym b),
      ap (λ (o : SharingOutcome). fill_in o.parts (clear lines)) (sym a),
      ap (λ (o : SharingOutcome). o.parts) (sym b),
    )

-- Two outcomes that the contract allows coincide
pub share_bytes_determined : (part : ℕ) (input before after other : List ℕ) (r q : Answer) → BytesShared part input before after r → BytesShared part input before other q
    → (r ≡ q) × (after ≡ other)
share_bytes_determined part input before after other r q b c = (b.says ∙ sym c.says, b.bytes.is ∙ sym c.bytes.is)

-- Lent memory

-- On a refusal no byte of the output changes.
pub bytes_kept : (part : ℕ) (input before after : List ℕ) (r : Answer) → BytesShared part input before after r → 0 < r.number → after ≡ before
unfolding parts_bytes
bytes_kept part input before after r b h =
    let o = sharing_bytes part input (length before) in
    let n : r.number ≡ o.number = ap (λ (a : Answer). a.number) b.says in
    b.bytes.is ∙ ap (λ (ps : List Part). sets before 0 (parts_bytes ps)) (none_written o (omega arith))

sets_behind : (xs : List ℕ) (l : List ℕ) (i j : ℕ) → i + length xs ≤ j → get_or (sets l i xs) j 0 ≡ get_or l j 0
sets_behind [] l i j h = refl
sets_behind (x ∷ xs) l i j h =
    let other : j ≢ i = λ e. omega arith in
    sets_behind xs (set l i x) (suc i) j (omega arith) ∙ get_or-set_other l i j x 0 other

-- Bytes behind the outcome, 16 for each part that is written, stay.
pub bytes_behind : (part : ℕ) (input before after : List ℕ) (r : Answer) (j : ℕ) → BytesShared part input before after r
    → 16 * length (parts_written (sharing_bytes part input (length before))) ≤ j → get_or after j 0 ≡ get_or before j 0
bytes_behind part input before after r j b h =
    let ps = parts_written (sharing_bytes part input (length before)) in
    ap (λ (l : List ℕ). get_or l j 0) b.bytes.is ∙ sets_behind (parts_bytes ps) before 0 j (omega (arith, length_parts_bytes ps))
