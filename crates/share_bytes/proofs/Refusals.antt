-- Each refusal over bytes is given exactly under its condition. Assumes nothing.
use mathlib.Core.Path.{◌≡◌, refl, sym, ap, ◌∙◌}
use mathlib.Core.Bool.{Bool, true, false, true≢false}
use mathlib.Core.List.{List}
use Prim.Native.Nat.{ℕ, ◌*◌, ◌%◌, ◌≤◌, ◌<◌}
use native.Mathlib.Decide.{dec_lt, ℕ_discrete}
use native.Mathlib.Omega.{arith}
use lib.Dec.{lit<}
use lib.ListN.{length}
use Rattle.share.specs.Sharing.{most_number, most_part, part_place, SharingOutcome, sharing_refused, sharing_accepted, sharing}
use Rattle.share.specs.Verdict.{AllSound, SharingVerdict}
use Rattle.share.specs.Verdict as lines
use Rattle.share.proofs.Refusals.{verdict, exact, none_bad}
use Rattle.share_bytes.specs.Bytes.{line_size, reserved_zero, byte_count, byte_lines, sharing_spelt, sharing_bytes}
use Rattle.share_bytes.specs.Inner.{line_at}
use Rattle.share_bytes.specs.Verdict.{BytesSoundBefore, BytesShareable, written_size, ByteVerdict, one, above, reserved, ten, more, fifteen, sixteen, nine, written}
use Rattle.share_bytes.proofs.Spelling.{length_lines}
use Rattle.share_bytes.proofs.Reading.{read, bad_read, same_read, turn_read, zero_read, sound_spelt, sound_read, before_spelt, before_read}
use Rattle.share_bytes.proofs.ByteCases.{bytes_1, bytes_refused, bytes_9, bytes_on}

module _ (input : List ℕ) where
  long : length (read input) ≡ byte_count input
  long = length_lines (line_at input) 0 (byte_count input)

  zeros : (p : ℕ) → BytesSoundBefore input p → reserved_zero input (line_size * p) ≡ true → (j : ℕ) → j ≤ p → reserved_zero input (line_size * j) ≡ true
  zeros p s z j i = go (dec_lt j p)
    where
      go : Dec (j < p) → reserved_zero input (line_size * j) ≡ true
      go (yes l) = (s j l).reserved
      go (no g) = let same : j ≡ p = omega arith in rw same z

  -- where the lines that are read are sound, they are the lines that are spelt
  spelt : AllSound (read input) → read input ≡ byte_lines input
  spelt a = same_read 0 input 0 (byte_count input) (omega (arith, long, none_bad (read input) a, bad_read 0 input 0 (byte_count input)))

  all_spelt : AllSound (read input) → BytesSoundBefore input (byte_count input)
  all_spelt a = before_spelt input (byte_count input) (omega arith) (λ k h. a k (omega (arith, long)))

  all_read : BytesSoundBefore input (byte_count input) → AllSound (read input)
  all_read s k h = before_read input (byte_count input) (omega arith) s k (omega (arith, long))

  module _ (part room : ℕ) (whole : length input % line_size ≡ 0) where
    refuses : (number place : ℕ) → 0 < number → sharing_refused number place ≡ sharing part (read input) → sharing_refused number place ≡ sharing_bytes part input room
    refuses number place some e =
        let s = e ∙ turn_read input part in
        s ∙ bytes_refused part input room whole (omega (arith, some, ap (λ (o : SharingOutcome). o.number) s))

    -- what the lines that are read say is what the bytes say
    from_lines : SharingVerdict part (read input) (sharing part (read input)) → ByteVerdict part input room (sharing_bytes part input room)
    from_lines (lines.above h e) = above whole h (sym (refuses 10 part_place (lit< tt) (sym e)))
    from_lines (lines.ten q p few f e) = go (reserved_zero input (line_size * p)) refl
      where
        there : p < byte_count input
        there = omega (arith, f.within, long)

        before : BytesSoundBefore input p
        before = before_spelt input p (omega (arith, there)) f.before

        go : (z : Bool) → reserved_zero input (line_size * p) ≡ z → ByteVerdict part input room (sharing_bytes part input room)
        go false z = reserved whole q p few there before z (sym (refuses 10 p (lit< tt) (sym e)))
        go true z = ten whole q p few there before z (λ s. f.bad (sound_read input p there (zeros p before z) s)) (sym (refuses 10 p (lit< tt) (sym e)))
    from_lines (lines.more q m s e) =
        more whole q (omega (arith, long)) (before_spelt input most_number (omega (arith, long)) s) (sym (refuses 10 most_number (lit< tt) (sym e)))
    from_lines (lines.fifteen q a c e) = fifteen whole q (all_spelt a) (rw (← spelt a) c) (sym (refuses 15 0 (lit< tt) (sym e)))
    from_lines (lines.sixteen q a c g w e) =
        sixteen whole q (all_spelt a) (rw (← spelt a) c) (rw (← spelt a) g)
        (rw (← spelt a) w) (sym (refuses 16 0 (lit< tt) (sym e)))
    from_lines (lines.shared q a c w e) = go (dec_lt room (written_size input))
      where
        can : BytesShareable part input
        can =
            record {
              sound = all_spelt a;
              within = rw (← spelt a) c;
              way = rw (← spelt a) w;
            }

        is : sharing_spelt part input ≡ sharing_accepted part (byte_lines input)
        is = sym (turn_read input part) ∙ e ∙ ap (sharing_accepted part) (spelt a)

        none : (sharing_spelt part input).number ≡ 0
        none = ap (λ (o : SharingOutcome). o.number) is

        go : Dec (room < written_size input) → ByteVerdict part input room (sharing_bytes part input room)
        go (yes h) = nine whole q can h (sym (bytes_9 part input room whole none h))
        go (no f) = written whole q can (omega arith) (sym (bytes_on part input room whole none (omega arith)) ∙ is)

  -- lines that can be shared are
  shares : (part : ℕ) → part ≤ most_part → BytesShareable part input → sharing_spelt part input ≡ sharing_accepted part (byte_lines input)
  shares part q b =
      let a = all_read b.sound in
      let e = spelt a in
      sym (turn_read input part)
      ∙ sym (exact part (read input) (sharing_accepted part (read input)) (lines.shared q a (rw e b.within)
      (rw e b.way) refl))
      ∙ ap (sharing_accepted part) e

-- THE TABLE: sharing over bytes gives one of its verdicts ..
pub byte_verdict : (part : ℕ) (input : List ℕ) (room : ℕ) → ByteVerdict part input room (sharing_bytes part input room)
byte_verdict part input room = go (ℕ_discrete (length input % line_size) 0)
  where
    go : Dec (length input % line_size ≡ 0) → ByteVerdict part input room (sharing_bytes part input room)
    go (no f) = one f (sym (bytes_1 part input room f))
    go (yes e) = from_lines input part room e (verdict part (read input))

-- .. and where the condition of one holds, that is the one.
pub byte_exact : (part : ℕ) (input : List ℕ) (room : ℕ) (o : SharingOutcome) → ByteVerdict part input room o → o ≡ sharing_bytes part input room
byte_exact part input room o (one f e) = e ∙ bytes_1 part input room f
byte_exact part input room o (above m h e) = e ∙ refuses input part room m 10 part_place (lit< tt) (exact part (read input) _ (lines.above h refl))
byte_exact part input room o (reserved m q p few h s z e) =
    e ∙ refuses input part room m 10 p (lit< tt) (exact part (read input) _ (lines.ten q p few (record {
      within = omega (arith, h, long input);
      before = before_read input p (omega arith) s;
      bad = λ b. true≢false (sym (zero_read input p h b) ∙ z);
    }) refl))
byte_exact part input room o (ten m q p few h s z f e) =
    e ∙ refuses input part room m 10 p (lit< tt) (exact part (read input) _ (lines.ten q p few (record {
      within = omega (arith, h, long input);
      before = before_read input p (omega arith) s;
      bad = λ b. f (sound_spelt input p h (zeros input p s z) b);
    }) refl))
byte_exact part input room o (more m q h s e) =
    e ∙ refuses input part room m 10 most_number (lit< tt)
    (exact part (read input) _ (lines.more q (omega (arith, h, long input)) (before_read input most_number (omega arith) s) refl))
byte_exact part input room o (fifteen m q s c e) =
    let a = all_read input s in
    e ∙ refuses input part room m 15 0 (lit< tt)
    (exact part (read input) _ (lines.fifteen q a (rw (spelt input a) c) refl))
byte_exact part input room o (sixteen m q s c g w e) =
    let a = all_read input s in
    let same = spelt input a in
    e ∙ refuses input part room m 16 0 (lit< tt)
    (exact part (read input) _ (lines.sixteen q a (rw same c) (rw same g)
    (rw same w) refl))
byte_exact part input room o (nine m q b h e) = e ∙ bytes_9 part input room m (ap (λ (x : SharingOutcome). x.number) (shares input part q b)) h
byte_exact part input room o (written m q b h e) =
    e ∙ sym (shares input part q b) ∙ bytes_on part input room m (ap (λ (x : SharingOutcome). x.number) (shares input part q b)) h
