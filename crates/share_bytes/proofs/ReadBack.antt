-- What a plant's tool reads of an accepted sharing over bytes, and the paper's rules of it. Assumes nothing.
use mathlib.Core.Path.{◌≡◌, refl, sym, ap, ap₂, ◌∙◌}
use mathlib.Core.List.{List, [], ◌∷◌, ◌++◌, map, append_assoc}
use Prim.Native.Nat.{ℕ, zero, suc, ◌+◌, ◌*◌, ◌^◌, ◌≤◌, ◌<◌}
use native.Mathlib.Decide.{dec_lt}
use native.Mathlib.Nat.{zero-add, not-suc-le-zero}
use native.Mathlib.Omega.{arith}
use lib.IntN.{ℤ, pos, nat_abs, ◌+ℤ◌, ◌-ℤ◌, ◌*ℤ◌}
use lib.ListN.{length, get_or, drop, length-append, get_or-append}
use lib.Seq.{sets, sets-eq, get_or-append_seam}
use mir.Syntax.{w64}
use mir.Val.{of_z, to_z, SFits}
use mir.Facts.{to_z-of_z, Fits-of_z}
use Rattle.le.specs.Le.{le_at, le_bytes}
use Rattle.le.proofs.Laws.{le_at_append, length_le_bytes, back}
use Rattle.share.specs.declared.Answer.{Answer}
use Rattle.share.specs.declared.Line.{Line}
use Rattle.share.specs.Sharing.{Part, SharingOutcome, assessment_fen, below, gap, generators_gap, user_amount, weight_of, all_weights, sharing_accepted, sharing}
use Rattle.share.specs.Verdict as lines
use Rattle.share.proofs.Signs.{small_fits}
use Rattle.share.proofs.Refusals.{exact}
use Rattle.share.proofs.Outcomes.{taken_list, each_given}
use Rattle.share.proofs.Promises.{sumℤ, sum_last, gap_is, user_is, user_within, parts_of_gap, adds_to_gap, adds_to_zero_lem, amount_is, part_within, one_fen, one_fen_none}
use Rattle.share_bytes.specs.Bytes.{part_size, fields_at, byte_count, byte_lines, part_bytes, parts_bytes, user_part, parts_written, part_at, parts_from, parts_at, sharing_bytes, BytesShared}
use Rattle.share_bytes.specs.Verdict.{written_size, ByteVerdict, one, above, reserved, ten, more, fifteen, sixteen, nine, written}
use Rattle.share_bytes.proofs.Spelling.{length_lines, length_part_bytes, length_parts_bytes}
use Rattle.share_bytes.proofs.ByteCases.{some_written}
use Rattle.share_bytes.proofs.Refusals.{byte_verdict}

-- Bytes read back

-- a signed number comes back from its eight bytes, as far as it fits them
signed_back : (z : ℤ) (t : List ℕ) → SFits w64 z → to_z w64 (le_at (le_bytes 8 (of_z w64 z) ++ t) 0 8) ≡ z
signed_back z t f =
    let low : of_z w64 z < 256 ^ 8 = (Fits-of_z f).fits in
    ap (to_z w64) (back 8 (of_z w64 z) t low) ∙ to_z-of_z f

-- both numbers of a part fit their bytes
record Fit (p : Part) : Type 0 where
  share : SFits w64 p.share
  amount : SFits w64 p.amount

amount_behind : (p : Part) (t : List ℕ) → le_at (part_bytes p ++ t) 8 8 ≡ le_at (le_bytes 8 (of_z w64 p.amount) ++ t) 0 8
unfolding part_bytes
amount_behind p t =
    let s = le_bytes 8 (of_z w64 p.share) in
    let a = le_bytes 8 (of_z w64 p.amount) in
    ap (λ (l : List ℕ). le_at l 8 8) (append_assoc s a t)
    ∙ ap (λ (n : ℕ). le_at (s ++ (a ++ t)) n 8) (sym (ap (λ (n : ℕ). n + 0) (length_le_bytes 8 (of_z w64 p.share))))
    ∙ le_at_append 8 s (a ++ t) 0

share_front : (p : Part) (t : List ℕ) → le_at (part_bytes p ++ t) 0 8 ≡ le_at (le_bytes 8 (of_z w64 p.share) ++ (le_bytes 8 (of_z w64 p.amount) ++ t)) 0 8
unfolding part_bytes
share_front p t = ap (λ (l : List ℕ). le_at l 0 8) (append_assoc (le_bytes 8 (of_z w64 p.share)) (le_bytes 8 (of_z w64 p.amount)) t)

part_here : (p : Part) (t : List ℕ) → Fit p → part_at (part_bytes p ++ t) 0 ≡ p
unfolding part_at
part_here p t f =
    let s : to_z w64 (le_at (part_bytes p ++ t) 0 8) ≡ p.share = ap (to_z w64) (share_front p t) ∙ signed_back p.share _ f.share in
    let a : to_z w64 (le_at (part_bytes p ++ t) 8 8) ≡ p.amount = ap (to_z w64) (amount_behind p t) ∙ signed_back p.amount t f.amount in
    λ i. record { share = s i; amount = a i }

part_there : (p : Part) (t : List ℕ) (k : ℕ) → part_at (part_bytes p ++ t) (suc k) ≡ part_at t k
unfolding part_at
part_there p t k = λ i. record { share = to_z w64 (skip (part_size * k) (part_size * suc k) (omega arith) i); amount = to_z w64 (skip (part_size * k + 8) (part_size * suc k + 8) (omega arith) i) }
  where
    skip : (o n : ℕ) → n ≡ 16 + o → le_at (part_bytes p ++ t) n 8 ≡ le_at t o 8
    skip o n e =
        ap (λ (m : ℕ). le_at (part_bytes p ++ t) m 8) (e ∙ sym (ap (λ (m : ℕ). m + o) (length_part_bytes p))) ∙ le_at_append 8 (part_bytes p) t o

part_of : (ps : List Part) (t : List ℕ) (k : ℕ) (d : Part) → k < length ps → ((i : ℕ) → i < length ps → Fit (get_or ps i d)) → part_at (parts_bytes ps ++ t) k ≡ get_or ps k d
unfolding parts_bytes
part_of [] t k d h f = absurd (not-suc-le-zero h)
part_of (p ∷ ps) t zero d h f =
    ap (λ (l : List ℕ). part_at l 0) (append_assoc (part_bytes p) (parts_bytes ps) t) ∙ part_here p (parts_bytes ps ++ t) (f 0 (omega arith))
part_of (p ∷ ps) t (suc k) d h f =
    ap (λ (l : List ℕ). part_at l (suc k)) (append_assoc (part_bytes p) (parts_bytes ps) t) ∙ part_there p (parts_bytes ps ++ t) k
    ∙ part_of ps t k d (omega arith) (λ i l. f (suc i) (omega arith))

parts_of : (part : ℕ → Part) (ps : List Part) (k : ℕ) (d : Part) → ((i : ℕ) → i < length ps → part (k + i) ≡ get_or ps i d) → parts_from part k (length ps) ≡ ps
unfolding parts_from
parts_of part [] k d h = refl
parts_of part (p ∷ ps) k d h =
    ap₂ (λ (q : Part) (qs : List Part). q ∷ qs) (ap part (omega arith) ∙ h 0 (omega arith))
    (parts_of part ps (suc k) d (λ i l. ap part (omega arith) ∙ h (suc i) (omega arith)))

map_last : {A : Type 0} (f : Part → A) (ps : List Part) (p : Part) → map f (ps ++ (p ∷ [])) ≡ map f ps ++ (f p ∷ [])
map_last f [] p = refl
map_last f (q ∷ ps) p = ap (λ l. f q ∷ l) (map_last f ps p)

-- What is accepted

-- an accepted sharing over bytes is the sharing of the lines that they spell, and there is room for it
record Accepted (part : ℕ) (input : List ℕ) (room : ℕ) : Type 0 where
  is : sharing_bytes part input room ≡ sharing part (byte_lines input)
  none : (sharing part (byte_lines input)).number ≡ 0
  holds : written_size input ≤ room

accepted : (part : ℕ) (input : List ℕ) (room : ℕ) → (sharing_bytes part input room).number ≡ 0 → Accepted part input room
accepted part input room h = go (byte_verdict part input room)
  where
    number_of_lem : {o : SharingOutcome} → sharing_bytes part input room ≡ o → o.number ≡ 0
    number_of_lem e = sym (ap (λ (o : SharingOutcome). o.number) e) ∙ h

    go : ByteVerdict part input room (sharing_bytes part input room) → Accepted part input room
    go (one f e) = absurd (omega (arith, number_of_lem e))
    go (above m g e) = absurd (omega (arith, number_of_lem e))
    go (reserved m q p few i s z e) = absurd (omega (arith, number_of_lem e))
    go (ten m q p few i s z f e) = absurd (omega (arith, number_of_lem e))
    go (more m q i s e) = absurd (omega (arith, number_of_lem e))
    go (fifteen m q s c e) = absurd (omega (arith, number_of_lem e))
    go (sixteen m q s c g w e) = absurd (omega (arith, number_of_lem e))
    go (nine m q b i e) = absurd (omega (arith, number_of_lem e))
    go (written m q b i e) =
        let all : lines.AllSound (byte_lines input) = λ k l. (b.sound k (omega (arith, l, length_lines (fields_at input) 0 (byte_count input)))).fields in
        let same : sharing_accepted part (byte_lines input) ≡ sharing part (byte_lines input) = exact part (byte_lines input) _ (lines.shared q all b.within b.way refl) in
        record { is = e ∙ same; none = sym (ap (λ (o : SharingOutcome). o.number) same); holds = i }

module _ (part : ℕ) (input before after : List ℕ) (r : Answer) (b : BytesShared part input before after r) (z : r.number ≡ 0) where
  abbrev ls : List Line
  ls = byte_lines input

  ok : Accepted part input (length before)
  ok = accepted part input (length before) (sym (ap (λ (a : Answer). a.number) b.says) ∙ z)

  count : length ls ≡ byte_count input
  count = length_lines (fields_at input) 0 (byte_count input)

  abbrev given : List Part
  given = (sharing part ls).parts

  abbrev user : Part
  user = user_part (sharing part ls).user

  long : length given ≡ byte_count input
  long = each_given part _ (length ls) ls (taken_list part ls ok.none) ∙ count

  long_all : length (given ++ (user ∷ [])) ≡ byte_count input + 1
  long_all = length-append given (user ∷ []) ∙ ap (λ (n : ℕ). n + 1) long

  -- the part at a place, of the lines and behind them
  of_line_lem : (d : Part) (k : ℕ) → k < byte_count input → get_or (given ++ (user ∷ [])) k d ≡ get_or given k d
  of_line_lem d k h = get_or-append given (user ∷ []) d k (omega (arith, h, long))

  of_user : (d : Part) → get_or (given ++ (user ∷ [])) (byte_count input) d ≡ user
  of_user d = ap (λ (k : ℕ). get_or (given ++ (user ∷ [])) k d) (sym long) ∙ get_or-append_seam given user [] d

  fit : (d : Part) (k : ℕ) → k < length (given ++ (user ∷ [])) → Fit (get_or (given ++ (user ∷ [])) k d)
  fit d k h = go (dec_lt k (byte_count input))
    where
      go : Dec (k < byte_count input) → Fit (get_or (given ++ (user ∷ [])) k d)
      go (yes i) =
          let w = part_within part ls ok.none k d (omega (arith, i, count)) in
          rw (of_line_lem d k i) (record { share = small_fits _ 100000000000 w.0 (omega arith); amount = small_fits _ 200000000000 w.1 (omega arith) })
      go (no f) =
          let last : k ≡ byte_count input = omega (arith, h, long_all) in
          let w = user_within part ls ok.none in
          rw (last, of_user d) (record { share = small_fits _ 100000000000 w (omega arith); amount = small_fits _ 100000000000 w (omega arith) })

  stored : after ≡ parts_bytes (given ++ (user ∷ [])) ++ drop (0 + length (parts_bytes (given ++ (user ∷ [])))) before
  stored =
      let ps = given ++ (user ∷ []) in
      b.bytes.is ∙ ap (λ (o : SharingOutcome). sets before 0 (parts_bytes (parts_written o))) ok.is
      ∙ ap (λ (qs : List Part). sets before 0 (parts_bytes qs)) (some_written (sharing part ls) ok.none)
      ∙ sets-eq (parts_bytes ps) before 0 (omega (arith, length_parts_bytes ps, long_all, ok.holds))

  there_back : (k : ℕ) (d : Part) → k < byte_count input + 1 → part_at after k ≡ get_or (given ++ (user ∷ [])) k d
  there_back k d h = ap (λ (l : List ℕ). part_at l k) stored ∙ part_of (given ++ (user ∷ [])) _ k d (omega (arith, h, long_all)) (fit d)

  -- WHAT A TOOL READS of a line, its eight bytes each from 16 times its place on, is its share and its amount,
  pub part_back : (k : ℕ) (d : Part) → k < byte_count input → part_at after k ≡ get_or (sharing part ls).parts k d
  part_back k d h = there_back k d (omega arith) ∙ of_line_lem d k h

  -- behind the last line the user's amount twice,
  pub user_back : part_at after (byte_count input) ≡ user_part (user_amount part ls)
  user_back =
      let d : Part = record { share = pos 0; amount = pos 0 } in
      there_back (byte_count input) d (omega arith) ∙ of_user d ∙ ap user_part (user_is part ls ok.none)

  -- so of all lines what sharing gives them,
  pub read_back : parts_at after (byte_count input) ≡ (sharing part ls).parts
  read_back =
      let d : Part = record { share = pos 0; amount = pos 0 } in
      ap (parts_at after) (sym long) ∙ parts_of (part_at after) given 0 d (λ i l. ap (part_at after) (zero-add i) ∙ part_back i d (omega (arith, l, long)))

  -- and with the user behind them,
  pub read_all : parts_at after (byte_count input + 1) ≡ (sharing part ls).parts ++ (user_part (sharing part ls).user ∷ [])
  read_all =
      let d : Part = record { share = pos 0; amount = pos 0 } in
      ap (parts_at after) (sym long_all)
      ∙ parts_of (part_at after) (given ++ (user ∷ [])) 0 d (λ i l. ap (part_at after) (zero-add i) ∙ there_back i d (omega (arith, l, long_all)))

  -- and the answer tells R.
  pub gap_back : r.gap.0 ≡ gap ls
  gap_back = ap (λ (a : Answer). a.gap.0) b.says ∙ ap (λ (o : SharingOutcome). o.gap) ok.is ∙ gap_is part ls ok.none

  -- The shares read add up to R, the user's amount among them,
  pub bytes_add_to_gap : sumℤ (map (λ p. p.share) (parts_at after (byte_count input + 1))) ≡ r.gap.0
  bytes_add_to_gap =
      ap (λ (ps : List Part). sumℤ (map (λ p. p.share) ps)) read_all ∙ ap sumℤ (map_last (λ p. p.share) given user)
      ∙ sum_last (map (λ p. p.share) given) (sharing part ls).user ∙ adds_to_gap part ls ok.none ∙ sym gap_back

  -- the amounts read to zero.
  pub bytes_add_to_zero : sumℤ (map (λ p. p.amount) (parts_at after (byte_count input + 1))) ≡ pos 0
  bytes_add_to_zero =
      ap (λ (ps : List Part). sumℤ (map (λ p. p.amount) ps)) read_all ∙ ap sumℤ (map_last (λ p. p.amount) given user) ∙ adds_to_zero_lem part ls ok.none

  -- The user's amount read and the generators' R add up to the R that is told.
  pub bytes_parts_of_gap : generators_gap part ls +ℤ (part_at after (byte_count input)).amount ≡ r.gap.0
  bytes_parts_of_gap = ap (λ (p : Part). generators_gap part ls +ℤ p.amount) user_back ∙ parts_of_gap part ls ∙ sym gap_back

  module _ (k : ℕ) (h : k < byte_count input) where
    abbrev none : Part
    none = record { share = pos 0; amount = pos 0 }

    there : k < length ls
    there = omega (arith, h, count)

    -- No share read lies a fen or more from its exact part of the generators' R.
    pub bytes_one_fen : (d : Line) → 0 < all_weights ls
        → nat_abs ((part_at after k).share *ℤ pos (all_weights ls) -ℤ generators_gap part ls *ℤ pos (weight_of (below ls) (get_or ls k d))) < all_weights ls
    bytes_one_fen d some = rw (part_back k none h) (one_fen part ls ok.none k d none some there)

    -- Where all weights add up to 0, the generators' R is 0 with them, and so is the share read.
    pub bytes_one_fen_none : all_weights ls ≡ 0 → (generators_gap part ls ≡ pos 0) × ((part_at after k).share ≡ pos 0)
    bytes_one_fen_none e = rw (part_back k none h) (one_fen_none part ls ok.none k none e there)

    -- The amount read is compensation less assessment and the share read.
    pub bytes_amount : (d : Line)
        → (part_at after k).amount ≡ pos (get_or ls k d).compensation.0 -ℤ pos (assessment_fen (get_or ls k d)) +ℤ (part_at after k).share
    bytes_amount d = rw (part_back k none h) (amount_is part ls ok.none k d none there)

    -- Both are far within 64 bits: at most 10^11 and 2 · 10^11 fen, whatever the sign.
    pub bytes_within : (nat_abs (part_at after k).share ≤ 100000000000) × (nat_abs (part_at after k).amount ≤ 200000000000)
    bytes_within = rw (part_back k none h) (part_within part ls ok.none k none there)
