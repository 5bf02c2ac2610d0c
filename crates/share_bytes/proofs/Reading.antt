-- Lines of bytes as they are read, one with a reserved byte that is not zero as a blank line: they are judged as they stand, and where they
-- are sound they are the lines that the bytes spell. Assumes nothing.
use mathlib.Core.Path.{◌≡◌, refl, sym, ap, subst, ◌∙◌}
use mathlib.Core.Bool.{Bool, true, false, cond, ◌&&◌}
use mathlib.Core.List.{List, ◌∷◌}
use Prim.Native.Nat.{ℕ, zero, suc, min, ◌+◌, ◌*◌, ◌≤◌, ◌<◌}
use native.Mathlib.Decide.{dec_le, dec_lt}
use native.Mathlib.Omega.{arith}
use lib.ListN.{length, get_or, take}
use lib.Seq.{take_all}
use Rattle.share.specs.declared.Line.{Line}
use Rattle.share.specs.Sharing.{line_is_sound, first_bad_line, sharing_in_turn, sharing, most_number, most_part}
use Rattle.share.specs.Forms.{blank_line}
use Rattle.share.specs.Verdict.{number_before, SoundAt}
use Rattle.share.proofs.Cases.{bad_le, turn_10, any_part}
use Rattle.share.proofs.Counted.{blank_bad}
use Rattle.share_bytes.specs.Bytes.{line_size, fields_at, reserved_zero, first_bad_bytes, lines_by, byte_count, byte_lines, sharing_spelt}
use Rattle.share_bytes.specs.Inner.{line_at, lines_at}
use Rattle.share_bytes.specs.Verdict.{BytesSoundBefore}
use Rattle.share_bytes.proofs.Spelling.{length_lines, lines_take, line_of}

-- a line with a reserved byte that is not zero is as bad as a blank one
pub bad_read : (before : ℕ) (bytes : List ℕ) (at n : ℕ) → first_bad_line before (lines_at bytes at n) ≡ first_bad_bytes before bytes at n
unfolding lines_by line_at
bad_read before bytes at zero = refl
bad_read before bytes at (suc n) = go (reserved_zero bytes at) (bad_read (fields_at bytes at).number bytes (at + line_size) n)
  where
    go : (z : Bool) → first_bad_line (fields_at bytes at).number (lines_at bytes (at + line_size) n) ≡ first_bad_bytes (fields_at bytes at).number bytes (at + line_size) n
        → first_bad_line before (cond z (fields_at bytes at) blank_line ∷ lines_at bytes (at + line_size) n)
        ≡ cond (z && line_is_sound before (fields_at bytes at)) (suc (first_bad_bytes (fields_at bytes at).number bytes (at + line_size) n)) 0
    go true rec = ap (λ (k : ℕ). cond (line_is_sound before (fields_at bytes at)) (suc k) 0) rec
    go false rec = rw (blank_bad before)

-- sound lines are read as they are spelt
pub same_read : (before : ℕ) (bytes : List ℕ) (at n : ℕ) → n ≤ first_bad_bytes before bytes at n → lines_at bytes at n ≡ lines_by (fields_at bytes) at n
unfolding lines_by line_at
same_read before bytes at zero h = refl
same_read before bytes at (suc n) h =
    go (reserved_zero bytes at) (line_is_sound before (fields_at bytes at)) h (same_read (fields_at bytes at).number bytes (at + line_size) n)
  where
    next : ℕ
    next = first_bad_bytes (fields_at bytes at).number bytes (at + line_size) n

    go : (z s : Bool) → suc n ≤ cond (z && s) (suc next) 0 → (n ≤ next → lines_at bytes (at + line_size) n ≡ lines_by (fields_at bytes) (at + line_size) n)
        → cond z (fields_at bytes at) blank_line ∷ lines_at bytes (at + line_size) n ≡ fields_at bytes at ∷ lines_by (fields_at bytes) (at + line_size) n
    go true true k rec = ap (λ (ls : List Line). fields_at bytes at ∷ ls) (rec (omega arith))
    go true false k rec = absurd (omega arith)
    go false s k rec = absurd (omega arith)

module _ (input : List ℕ) where
  -- the lines of the input as they are read
  abbrev pub read : List Line
  read = lines_at input 0 (byte_count input)

  first_64 : take most_number read ≡ lines_at input 0 (min (byte_count input) most_number)
  first_64 = go (dec_le (byte_count input) most_number)
    where
      go : Dec (byte_count input ≤ most_number) → take most_number read ≡ lines_at input 0 (min (byte_count input) most_number)
      go (yes h) =
          let m : min (byte_count input) most_number ≡ byte_count input = omega arith in
          take_all most_number read (omega (arith, length_lines (line_at input) 0 (byte_count input))) ∙ ap (lines_at input 0) (sym m)
      go (no f) =
          let m : min (byte_count input) most_number ≡ most_number = omega arith in
          sym (lines_take (line_at input) 0 most_number (byte_count input) (omega arith)) ∙ ap (lines_at input 0) (sym m)

  bad : ℕ
  bad = first_bad_bytes 0 input 0 (min (byte_count input) most_number)

  bad_is : first_bad_line 0 (take most_number read) ≡ bad
  unfolding bad
  bad_is = ap (first_bad_line 0) first_64 ∙ bad_read 0 input 0 (min (byte_count input) most_number)

  -- SHARING OVER BYTES is the sharing of the lines as they are read.
  pub turn_read : (part : ℕ) → sharing part read ≡ sharing_spelt part input
  unfolding bad
  turn_read part =
      ap (λ (k : ℕ). sharing_in_turn part k (length read) read) bad_is ∙ ap (λ (k : ℕ). sharing_in_turn part bad k read) (length_lines (line_at input) 0 (byte_count input))
      ∙ any_part part bad (byte_count input) bad (byte_count input) read (byte_lines input) (λ fair. go fair (dec_lt bad (byte_count input)))
    where
      m : ℕ
      m = min (byte_count input) most_number

      few : bad ≤ m
      few = omega (arith, bad_read 0 input 0 m, bad_le 0 (lines_at input 0 m), length_lines (line_at input) 0 m)

      go : part ≤ most_part → Dec (bad < byte_count input) → sharing_in_turn part bad (byte_count input) read ≡ sharing_in_turn part bad (byte_count input) (byte_lines input)
      go fair (yes h) = sym (turn_10 part bad (byte_count input) read fair (omega (arith, few)) h) ∙ turn_10 part bad (byte_count input) (byte_lines input) fair (omega (arith, few)) h
      go fair (no f) =
          let all : m ≡ byte_count input = omega (arith, few) in
          let sound : byte_count input ≤ first_bad_bytes 0 input 0 (byte_count input) = subst (λ (k : ℕ). k ≤ first_bad_bytes 0 input 0 k) all (omega (arith, few)) in
          ap (sharing_in_turn part bad (byte_count input)) (same_read 0 input 0 (byte_count input) sound)

  -- Soundness, place by place

  spelt_there : (k : ℕ) → k < byte_count input → reserved_zero input (line_size * k) ≡ true → get_or read k blank_line ≡ get_or (byte_lines input) k blank_line
  unfolding line_at
  spelt_there k h z = line_of (line_at input) (byte_count input) k blank_line h ∙ rw z (sym (line_of (fields_at input) (byte_count input) k blank_line h))

  number_there : (k : ℕ) → k < byte_count input → ((j : ℕ) → j < k → reserved_zero input (line_size * j) ≡ true)
      → number_before 0 read k ≡ number_before 0 (byte_lines input) k
  unfolding number_before
  number_there zero h z = refl
  number_there (suc j) h z = ap (λ (l : Line). l.number) (spelt_there j (omega arith) (z j (omega arith)))

  -- a sound line that is read has reserved bytes that are zero
  pub zero_read : (k : ℕ) → k < byte_count input → SoundAt read k → reserved_zero input (line_size * k) ≡ true
  unfolding line_at
  zero_read k h s = go (reserved_zero input (line_size * k)) refl
    where
      go : (z : Bool) → reserved_zero input (line_size * k) ≡ z → reserved_zero input (line_size * k) ≡ true
      go true e = e
      go false e =
          let none : get_or read k blank_line ≡ blank_line = line_of (line_at input) (byte_count input) k blank_line h ∙ rw e in
          absurd (omega (arith, s.rises, ap (λ (l : Line). l.number) none))

  module _ (k : ℕ) (h : k < byte_count input) (z : (j : ℕ) → j ≤ k → reserved_zero input (line_size * j) ≡ true) where
    same : (number_before 0 read k ≡ number_before 0 (byte_lines input) k) × (get_or read k blank_line ≡ get_or (byte_lines input) k blank_line)
    same = (number_there k h (λ j i. z j (omega arith)), spelt_there k h (z k (omega arith)))

    pub sound_spelt : SoundAt read k → SoundAt (byte_lines input) k
    sound_spelt s = rw (← same.0, ← same.1) s

    pub sound_read : SoundAt (byte_lines input) k → SoundAt read k
    sound_read s = rw (same.0, same.1) s

  module _ (p : ℕ) (h : p ≤ byte_count input) where
    pub before_spelt : ((k : ℕ) → k < p → SoundAt read k) → BytesSoundBefore input p
    before_spelt s k i =
        let z : (j : ℕ) → j ≤ k → reserved_zero input (line_size * j) ≡ true = λ j l. zero_read j (omega arith) (s j (omega arith)) in
        record { reserved = z k (omega arith); fields = sound_spelt k (omega arith) z (s k i) }

    pub before_read : BytesSoundBefore input p → (k : ℕ) → k < p → SoundAt read k
    before_read s k i = sound_read k (omega arith) (λ j l. (s j (omega arith)).reserved) (s k i).fields
