-- Every list of sound lines has its bytes, and these spell the same lines again.
use mathlib.Core.Path.{◌≡◌, refl, sym, ap, ap₂, ◌∙◌}
use mathlib.Core.List.{List, [], ◌∷◌, ◌++◌}
use Prim.Native.Nat.{ℕ, zero, suc, ◌+◌, ◌*◌, ◌^◌, ◌≤◌, ◌<◌}
use native.Mathlib.Nat.{add_assoc}
use native.Mathlib.Omega.{arith}
use lib.ListN.{length, get_or, drop}
use Rattle.le.specs.Le.{le_at, le_bytes}
use Rattle.le.proofs.Laws.{le_at_append, le_at_drop, length_le_bytes, back}
use Rattle.share.specs.declared.Line.{Line}
use Rattle.share.specs.Sharing.{first_bad_line, sharing}
use Rattle.share.specs.Forms.{blank_line, cleared, clear}
use Rattle.share.specs.Verdict.{SoundLine, AllSound}
use Rattle.share.proofs.TwoForms.{bad_cleared}
use Rattle.share.proofs.Refusals.{none_bad}
use Rattle.share_bytes.specs.Bytes.{fields_at, reserved_zero, lines_by, byte_count, byte_lines, line_then, lines_bytes, part_size, sharing_bytes}
use Rattle.share_bytes.specs.Inner.{line_at, lines_at}
use Rattle.share_bytes.proofs.Reading.{read, bad_read, same_read}
use Rattle.share_bytes.proofs.ThreeForms.{bytes_as_list}

-- a field behind another one
skip : (n v : ℕ) (s : List ℕ) (o k w : ℕ) → o ≡ n + k → le_at (le_bytes n v ++ s) o w ≡ le_at s k w
skip n v s o k w e =
    ap (λ (i : ℕ). le_at (le_bytes n v ++ s) i w) (e ∙ ap (λ (m : ℕ). m + k) (sym (length_le_bytes n v))) ∙ le_at_append w (le_bytes n v) s k

-- fields that fit their bytes
record Fits (l : Line) : Type 0 where
  number : l.number < 256 ^ 2
  status : l.status < 256 ^ 1
  energy : l.energy.0 < 256 ^ 4
  compensation : l.compensation.0 < 256 ^ 8
  assessment : l.assessment.0 < 256 ^ 4

sound_fits : {before : ℕ} {l : Line} → SoundLine before l → Fits l
sound_fits s =
    record {
      number = omega (arith, s.number);
      status = omega (arith, s.status);
      energy = omega (arith, s.energy);
      compensation = omega (arith, s.compensation);
      assessment = omega (arith, s.assessment);
    }

module _ (l : Line) (t : List ℕ) (f : Fits l) where
  number_at : le_at (line_then l t) 0 2 ≡ l.number
  unfolding line_then
  number_at = back 2 l.number _ f.number

  -- what lies behind number, status, the zero byte, energy, compensation
  behind_2 : (o k w : ℕ) → o ≡ 2 + k → le_at (line_then l t) o w
      ≡ le_at (le_bytes 1 l.status ++ (le_bytes 1 0 ++ (le_bytes 4 l.energy.0 ++ (le_bytes 8 l.compensation.0 ++ (le_bytes 4 l.assessment.0 ++ (le_bytes 4 0 ++ t)))))) k w
  unfolding line_then
  behind_2 o k w e = skip 2 l.number _ o k w e

  behind_4 : (o k w : ℕ) → o ≡ 4 + k → le_at (line_then l t) o w
      ≡ le_at (le_bytes 4 l.energy.0 ++ (le_bytes 8 l.compensation.0 ++ (le_bytes 4 l.assessment.0 ++ (le_bytes 4 0 ++ t)))) k w
  behind_4 o k w e = behind_2 o (2 + k) w (omega arith) ∙ skip 1 l.status _ (2 + k) (1 + k) w (omega arith) ∙ skip 1 0 _ (1 + k) k w refl

  behind_16 : (o k w : ℕ) → o ≡ 16 + k → le_at (line_then l t) o w ≡ le_at (le_bytes 4 l.assessment.0 ++ (le_bytes 4 0 ++ t)) k w
  behind_16 o k w e = behind_4 o (12 + k) w (omega arith) ∙ skip 4 l.energy.0 _ (12 + k) (8 + k) w (omega arith) ∙ skip 8 l.compensation.0 _ (8 + k) k w refl

  spelt_line : line_at (line_then l t) 0 ≡ cleared l
  unfolding line_at reserved_zero fields_at
  spelt_line =
      rw (
        behind_2 3 1 1 refl ∙ skip 1 l.status _ 1 0 1 refl ∙ back 1 0 _ (omega arith),
        behind_16 20 4 4 refl ∙ skip 4 l.assessment.0 _ 4 0 4 refl ∙ back 4 0 t (omega arith),
        number_at,
        behind_2 2 0 1 refl ∙ back 1 l.status _ f.status,
        behind_4 4 0 4 refl ∙ back 4 l.energy.0 _ f.energy,
        behind_4 8 4 8 refl ∙ skip 4 l.energy.0 _ 4 0 8 refl ∙ back 8 l.compensation.0 _ f.compensation,
        behind_16 16 0 4 refl ∙ back 4 l.assessment.0 _ f.assessment,
      )

  behind_line : drop 24 (line_then l t) ≡ t
  unfolding line_then le_bytes
  behind_line = refl

-- lines from a place on are the lines of what lies there
line_drop : (s : List ℕ) (k at : ℕ) → line_at s (k + at) ≡ line_at (drop k s) at
unfolding line_at reserved_zero fields_at
line_drop s k at =
    rw (
      le_at_drop 1 s k (at + 3),
      le_at_drop 4 s k (at + 20),
      le_at_drop 2 s k at,
      le_at_drop 1 s k (at + 2),
      le_at_drop 4 s k (at + 4),
      le_at_drop 8 s k (at + 8),
      le_at_drop 4 s k (at + 16),
      add_assoc k at 3,
      add_assoc k at 20,
      add_assoc k at 2,
      add_assoc k at 4,
      add_assoc k at 8,
      add_assoc k at 16,
    )

lines_drop : (s : List ℕ) (k at n : ℕ) → lines_at s (k + at) n ≡ lines_at (drop k s) at n
unfolding lines_by
lines_drop s k at zero = refl
lines_drop s k at (suc n) =
    ap₂ (λ (l : Line) (ls : List Line). l ∷ ls) (line_drop s k at) (ap (λ (i : ℕ). lines_at s i n) (add_assoc k at 24) ∙ lines_drop s k (at + 24) n)

AllFit : List Line → Type 0
AllFit ls = (k : ℕ) → k < length ls → Fits (get_or ls k blank_line)

spelt_lines_lem : (ls : List Line) → AllFit ls → lines_at (lines_bytes ls) 0 (length ls) ≡ clear ls
unfolding lines_by lines_bytes AllFit
spelt_lines_lem [] f = refl
spelt_lines_lem (l ∷ ls) f =
    ap₂ (λ (x : Line) (xs : List Line). x ∷ xs) (spelt_line l (lines_bytes ls) (f 0 (omega arith)))
    (lines_drop (line_then l (lines_bytes ls)) 24 0 (length ls) ∙ ap (λ (s : List ℕ). lines_at s 0 (length ls)) (behind_line l (lines_bytes ls) (f 0 (omega arith)))
    ∙ spelt_lines_lem ls (λ k h. f (suc k) (omega arith)))

length_bytes : (ls : List Line) → length (lines_bytes ls) ≡ 24 * length ls
unfolding lines_bytes line_then le_bytes
length_bytes [] = omega arith
length_bytes (l ∷ ls) = omega (arith, length_bytes ls)

lines_back : (ls : List Line) → AllSound ls → read (lines_bytes ls) ≡ clear ls
unfolding AllFit
lines_back ls a =
    let n : byte_count (lines_bytes ls) ≡ length ls = omega (arith, length_bytes ls) in
    ap (lines_at (lines_bytes ls) 0) n ∙ spelt_lines_lem ls (λ k h. sound_fits (a k h))

-- Sound lines are read back from their bytes, as they were but for share and amount.
pub reads_back : (ls : List Line) → AllSound ls → byte_lines (lines_bytes ls) ≡ clear ls
reads_back ls a =
    let b = lines_back ls a in
    let n : byte_count (lines_bytes ls) ≡ length ls = omega (arith, length_bytes ls) in
    let sound = ap (first_bad_line 0) b ∙ bad_cleared 0 ls in
    sym (same_read 0 (lines_bytes ls) 0 (byte_count (lines_bytes ls)) (omega (arith, n, sound, none_bad ls a, bad_read 0 (lines_bytes ls) 0 (byte_count (lines_bytes ls))))) ∙ b

-- The byte form over the bytes of sound lines, with room, says what sharing says of the lines.
pub bytes_of_lines : (part : ℕ) (ls : List Line) (room : ℕ) → AllSound ls → part_size * length ls + part_size ≤ room → sharing_bytes part (lines_bytes ls) room ≡ sharing part ls
bytes_of_lines part ls room a h = bytes_as_list part ls (lines_bytes ls) room (omega (arith, length_bytes ls)) (lines_back ls a) h
