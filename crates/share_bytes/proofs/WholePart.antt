-- With the whole part sharing over bytes is what it was without a part, but for the user's sixteen bytes. Assumes nothing.
use mathlib.Core.Path.{◌≡◌, sym, ap, ◌∙◌}
use mathlib.Core.List.{List, [], ◌++◌, append-nil, append_assoc}
use mathlib.Core.Logic.{◌≢◌}
use Prim.Native.Nat.{ℕ, ◌*◌, ◌%◌, ◌+◌, ◌≤◌}
use native.Mathlib.Decide.{ℕ_discrete}
use native.Mathlib.Omega.{arith}
use borrow.Author.Tests.{le-ltb, eq-eqb, ne_eqb}
use lib.IntN.{pos}
use lib.ListN.{length, take, drop, length-append}
use lib.Seq.{sets, sets-eq, take_at}
use Rattle.share.specs.declared.Answer.{Answer}
use Rattle.share.specs.Sharing.{Part, SharingOutcome, most_part}
use Rattle.share.specs.Without.{refused_without}
use Rattle.share.proofs.Outcomes.{taken, none_given, each_given}
use Rattle.share.proofs.WholePart.{no_user, whole_turn}
use Rattle.share_bytes.specs.Bytes.{line_size, fields_at, byte_count, byte_lines, part_size, part_bytes, parts_bytes, user_part, parts_written, sharing_spelt, sharing_bytes, BytesShared}
use Rattle.share_bytes.specs.Verdict.{written_size}
use Rattle.share_bytes.specs.Without.{spelt_without, if_room_without, bytes_without}
use Rattle.share_bytes.proofs.Spelling.{length_lines, length_part_bytes, length_parts_bytes, parts_last}
use Rattle.share_bytes.proofs.ByteCases.{none_written, some_written, bytes_1, bytes_enough}

module _ (input : List ℕ) where
  spelt : sharing_spelt most_part input ≡ no_user (spelt_without input)
  spelt = whole_turn _ (byte_count input) (byte_lines input)

  -- each line gets a part, or none does
  each_or_none : (o : SharingOutcome) → o ≡ sharing_spelt most_part input → (o.number ≡ 0 → length o.parts ≡ byte_count input) × ((o.number ≡ 0 → ⊥) → o.parts ≡ [])
  each_or_none o e = (
    λ z. ap (λ (x : SharingOutcome). length x.parts) e
        ∙ each_given most_part _ (byte_count input) (byte_lines input) (taken most_part _ _ (byte_lines input) (sym (number_of_lem e) ∙ z)) ∙ length_lines (fields_at input) 0 (byte_count input),
    λ f. ap (λ (x : SharingOutcome). x.parts) e ∙ none_given most_part _ (byte_count input) (byte_lines input) (some (λ z. f (number_of_lem e ∙ z))),
  )
    where
      number_of_lem : {x y : SharingOutcome} → x ≡ y → x.number ≡ y.number
      number_of_lem i = ap (λ (x : SharingOutcome). x.number) i

      some : {n : ℕ} → (n ≡ 0 → ⊥) → 1 ≤ n
      some f = omega arith

  few : length (spelt_without input).parts ≤ byte_count input
  few = go (ℕ_discrete (no_user (spelt_without input)).number 0)
    where
      both : ((no_user (spelt_without input)).number ≡ 0 → length (spelt_without input).parts ≡ byte_count input)
          × (((no_user (spelt_without input)).number ≡ 0 → ⊥) → (spelt_without input).parts ≡ [])
      both = each_or_none (no_user (spelt_without input)) (sym spelt)

      go : Dec ((no_user (spelt_without input)).number ≡ 0) → length (spelt_without input).parts ≤ byte_count input
      go (yes z) = omega (arith, both.0 z)
      go (no f) = omega (arith, ap length (both.1 f))

  module _ (room : ℕ) (h : written_size input ≤ room) where
    without_1 : length input % line_size ≢ 0 → bytes_without input room ≡ refused_without 1 0
    unfolding bytes_without
    without_1 f = rw (ne_eqb (length input % line_size) 0 f)

    without_enough : length input % line_size ≡ 0 → bytes_without input room ≡ spelt_without input
    unfolding bytes_without if_room_without
    without_enough whole = rw (eq-eqb (length input % line_size) 0 whole, le-ltb room (part_size * length (spelt_without input).parts) (omega (arith, few)))

    -- WITH THE WHOLE PART, and room for all, sharing over bytes is what it was without a part, and the user's amount is 0.
    pub whole_part_bytes : sharing_bytes most_part input room ≡ no_user (bytes_without input room)
    whole_part_bytes = go (ℕ_discrete (length input % line_size) 0)
      where
        go : Dec (length input % line_size ≡ 0) → sharing_bytes most_part input room ≡ no_user (bytes_without input room)
        go (yes e) = bytes_enough most_part input room e h ∙ spelt ∙ ap no_user (sym (without_enough e))
        go (no f) = sym (bytes_1 most_part input room f) ∙ ap no_user (sym (without_1 f))

    same_or_none : ((sharing_bytes most_part input room).number ≡ 0 → length (sharing_bytes most_part input room).parts ≡ byte_count input)
        × (((sharing_bytes most_part input room).number ≡ 0 → ⊥) → (sharing_bytes most_part input room).parts ≡ [])
    same_or_none = go (ℕ_discrete (length input % line_size) 0)
      where
        go : Dec (length input % line_size ≡ 0) → ((sharing_bytes most_part input room).number ≡ 0 → length (sharing_bytes most_part input room).parts ≡ byte_count input)
            × (((sharing_bytes most_part input room).number ≡ 0 → ⊥) → (sharing_bytes most_part input room).parts ≡ [])
        go (yes e) = each_or_none (sharing_bytes most_part input room) (bytes_enough most_part input room e h)
        go (no f) =
            let one = bytes_1 most_part input room f in
            (λ z. absurd (omega (arith, ap (λ (x : SharingOutcome). x.number) one)), λ n. sym (ap (λ (x : SharingOutcome). x.parts) one))

-- the parts of the lines stand at the front, whatever stands behind them
front_of : (ps : List Part) (rest before : List ℕ) (n : ℕ) → length ps ≡ n → part_size * n + length rest ≤ length before
    → take (part_size * n) (sets before 0 (parts_bytes ps ++ rest)) ≡ parts_bytes ps
front_of ps rest before n e h =
    let long : length (parts_bytes ps) ≡ part_size * n = omega (arith, length_parts_bytes ps) in
    let all : length (parts_bytes ps ++ rest) ≡ length (parts_bytes ps) + length rest = length-append (parts_bytes ps) rest in
    ap (take (part_size * n)) (sets-eq (parts_bytes ps ++ rest) before 0 (omega (arith, long, all))
    ∙ append_assoc (parts_bytes ps) rest (drop (0 + length (parts_bytes ps ++ rest)) before))
    ∙ take_at (parts_bytes ps) _ (part_size * n) long

-- So number, place and R are those of before, and so is what stands at the front, 16 bytes for each line.
pub whole_part_read : (input before after : List ℕ) (r : Answer) → written_size input ≤ length before → BytesShared most_part input before after r
    → let old = bytes_without input (length before) in
    (r.number ≡ old.number) × (r.place ≡ old.place) × (r.gap.0 ≡ old.gap) × (r.user.0 ≡ pos 0)
    × (take (part_size * byte_count input) after ≡ take (part_size * byte_count input) (sets before 0 (parts_bytes old.parts)))
whole_part_read input before after r h b = (
  ap (λ (a : Answer). a.number) b.says ∙ ap (λ (x : SharingOutcome). x.number) is,
  ap (λ (a : Answer). a.place) b.says ∙ ap (λ (x : SharingOutcome). x.place) is,
  ap (λ (a : Answer). a.gap.0) b.says ∙ ap (λ (x : SharingOutcome). x.gap) is,
  ap (λ (a : Answer). a.user.0) b.says ∙ ap (λ (x : SharingOutcome). x.user) is,
  ap (take (part_size * byte_count input)) b.bytes.is ∙ go (ℕ_discrete o.number 0)
      ∙ ap (λ (x : SharingOutcome). take (part_size * byte_count input) (sets before 0 (parts_bytes x.parts))) is,
)
  where
    o : SharingOutcome
    o = sharing_bytes most_part input (length before)

    is : sharing_bytes most_part input (length before) ≡ no_user (bytes_without input (length before))
    is = whole_part_bytes input (length before) h

    go : Dec ((sharing_bytes most_part input (length before)).number ≡ 0)
        → take (part_size * byte_count input) (sets before 0 (parts_bytes (parts_written (sharing_bytes most_part input (length before)))))
        ≡ take (part_size * byte_count input) (sets before 0 (parts_bytes (sharing_bytes most_part input (length before)).parts))
    go (yes z) =
        let x = sharing_bytes most_part input (length before) in
        let u = user_part x.user in
        let long = (same_or_none input (length before) h).0 z in
        ap (λ (ps : List Part). take (part_size * byte_count input) (sets before 0 (parts_bytes ps))) (some_written x z)
        ∙ ap (λ (xs : List ℕ). take (part_size * byte_count input) (sets before 0 xs)) (sym (parts_last x.parts u))
        ∙ front_of x.parts (part_bytes u) before (byte_count input) long (omega (arith, length_part_bytes u))
        ∙ sym (ap (λ (xs : List ℕ). take (part_size * byte_count input) (sets before 0 xs)) (sym (append-nil (parts_bytes x.parts)))
        ∙ front_of x.parts [] before (byte_count input) long (omega arith))
    go (no f) =
        let x = sharing_bytes most_part input (length before) in
        ap (λ (ps : List Part). take (part_size * byte_count input) (sets before 0 (parts_bytes ps)))
        (none_written x (omega arith) ∙ sym ((same_or_none input (length before) h).1 f))
