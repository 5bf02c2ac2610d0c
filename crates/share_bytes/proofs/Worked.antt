-- Three lines in bytes, and in all three forms. Assumes nothing.
use mathlib.Core.Path.{◌≡◌, refl, sym, ap, ◌∙◌}
use mathlib.Core.List.{List, [], ◌∷◌, ◌++◌, map, append-nil}
use Prim.Native.Nat.{ℕ, ◌<◌}
use lib.Dec.{lit≤, lit<}
use lib.IntN.{pos, negsuc, nat_abs, ◌-ℤ◌, ◌*ℤ◌}
use lib.ListN.{length, replicate, drop_of_length-le}
use lib.Seq.{sets, sets-eq}
use native.Mathlib.Omega.{arith}
use Rattle.apportion.specs.Apportion.{apportion}
use Rattle.units.specs.Money.{fen_per_thousandth}
use Rattle.le.specs.Le.{le_at, le_bytes}
use Rattle.share.specs.declared.Line.{Line}
use Rattle.share.specs.declared.Answer.{Answer}
use Rattle.share.specs.Sharing.{Part, parts, gap, generators_amount, user_amount, line_is_sound, sharing_refused, settled, sharing_in_turn, sharing}
use Rattle.share.specs.Forms.{blank_line, clear, shared_array, answer_in, answer_of, Lent, fill_in}
use Rattle.share_bytes.specs.Bytes.{fields_at, reserved_zero, lines_by, part_bytes, parts_bytes, parts_written, part_at, parts_from, parts_at, sharing_bytes, if_room, BytesShared}
use Rattle.share_bytes.specs.Inner.{line_at}
use Rattle.share_bytes.proofs.Reading.{read}
use Rattle.share_bytes.proofs.ThreeForms.{same_answer}
use Rattle.share.proofs.Promises.{sumℤ}
use Rattle.share.proofs.Worked.{part, accepted, equals}
use Rattle.share_bytes.proofs.ReadBack.{bytes_add_to_gap, bytes_add_to_zero, bytes_one_fen}

-- The three equal energies in bytes, and with a byte that should be zero in the second line
abbrev pub spelt : ℕ → List ℕ
spelt reserved =
    (1 ∷ 0 ∷ 0 ∷ 0 ∷ 5 ∷ 0 ∷ 0 ∷ 0 ∷ 100 ∷ 0 ∷ 0 ∷ 0 ∷ 0 ∷ 0 ∷ 0 ∷ 0 ∷ 0 ∷ 0 ∷ 0 ∷ 0 ∷ 0 ∷ 0 ∷ 0 ∷ 0 ∷ [])
    ++ (2 ∷ 0 ∷ 0 ∷ reserved ∷ 5 ∷ 0 ∷ 0 ∷ 0 ∷ 0 ∷ 0 ∷ 0 ∷ 0 ∷ 0 ∷ 0 ∷ 0 ∷ 0 ∷ 0 ∷ 0 ∷ 0 ∷ 0 ∷ 0 ∷ 0 ∷ 0 ∷ 0 ∷ [])
    ++ (3 ∷ 0 ∷ 0 ∷ 0 ∷ 5 ∷ 0 ∷ 0 ∷ 0 ∷ 0 ∷ 0 ∷ 0 ∷ 0 ∷ 0 ∷ 0 ∷ 0 ∷ 0 ∷ 0 ∷ 0 ∷ 0 ∷ 0 ∷ 0 ∷ 0 ∷ 0 ∷ 0 ∷ [])

spelt_lines_lem : read (spelt 0) ≡ equals
unfolding lines_by line_at reserved_zero fields_at le_at
spelt_lines_lem = refl

pub reserved_byte : sharing_bytes 10000 (spelt 1) 64 ≡ sharing_refused 10 1
unfolding sharing_bytes if_room parts_written sharing_in_turn settled gap line_is_sound lines_by reserved_zero fields_at le_at
reserved_byte = refl

-- a part above 10,000 comes before the line, and the length before the part
pub part_first : sharing_bytes 10001 (spelt 1) 64 ≡ sharing_refused 10 65
unfolding sharing_bytes if_room parts_written sharing_in_turn
part_first = refl

pub length_first : sharing_bytes 10001 (1 ∷ []) 64 ≡ sharing_refused 1 0
unfolding sharing_bytes
length_first = refl

-- The three forms over these lines: the conditions of `same_answer` can be met.
pub equal_forms : (after : List Line) (r : Answer) → Lent 5000 equals after r
    → (r ≡ answer_in (shared_array 5000 (equals ++ replicate 61 blank_line) 3)) × (r ≡ answer_of (sharing_bytes 5000 (spelt 0) 64))
    × (fill_in (sharing 5000 equals).parts (clear (equals ++ replicate 61 blank_line)) ≡ (shared_array 5000 (equals ++ replicate 61 blank_line) 3).lines)
    × ((sharing 5000 equals).parts ≡ (sharing_bytes 5000 (spelt 0) 64).parts)
equal_forms = same_answer 5000 equals (equals ++ replicate 61 blank_line) (spelt 0) 64 refl refl spelt_lines_lem (lit≤ tt)

-- The paper's statement sample as bytes, in and out, with half of the gap for the generators: what a tool hands in, and what it reads

-- number 1, status 0, energy 100, compensation 300000, assessment 0; 2, 0, 200, 0, 1000; 3, 2, 50, 0, 0
abbrev pub sample_in : List ℕ
sample_in =
    (1 ∷ 0 ∷ 0 ∷ 0 ∷ 100 ∷ 0 ∷ 0 ∷ 0 ∷ 224 ∷ 147 ∷ 4 ∷ 0 ∷ 0 ∷ 0 ∷ 0 ∷ 0 ∷ 0 ∷ 0 ∷ 0 ∷ 0 ∷ 0 ∷ 0 ∷ 0 ∷ 0 ∷ [])
    ++ (2 ∷ 0 ∷ 0 ∷ 0 ∷ 200 ∷ 0 ∷ 0 ∷ 0 ∷ 0 ∷ 0 ∷ 0 ∷ 0 ∷ 0 ∷ 0 ∷ 0 ∷ 0 ∷ 232 ∷ 3 ∷ 0 ∷ 0 ∷ 0 ∷ 0 ∷ 0 ∷ 0 ∷ [])
    ++ (3 ∷ 0 ∷ 2 ∷ 0 ∷ 50 ∷ 0 ∷ 0 ∷ 0 ∷ 0 ∷ 0 ∷ 0 ∷ 0 ∷ 0 ∷ 0 ∷ 0 ∷ 0 ∷ 0 ∷ 0 ∷ 0 ∷ 0 ∷ 0 ∷ 0 ∷ 0 ∷ 0 ∷ [])

-- −27778 and 272222; −55555 and −155555; −16667 and −16667; −100000 twice
abbrev pub sample_out : List ℕ
sample_out =
    (126 ∷ 147 ∷ 255 ∷ 255 ∷ 255 ∷ 255 ∷ 255 ∷ 255 ∷ 94 ∷ 39 ∷ 4 ∷ 0 ∷ 0 ∷ 0 ∷ 0 ∷ 0 ∷ [])
    ++ (253 ∷ 38 ∷ 255 ∷ 255 ∷ 255 ∷ 255 ∷ 255 ∷ 255 ∷ 93 ∷ 160 ∷ 253 ∷ 255 ∷ 255 ∷ 255 ∷ 255 ∷ 255 ∷ [])
    ++ (229 ∷ 190 ∷ 255 ∷ 255 ∷ 255 ∷ 255 ∷ 255 ∷ 255 ∷ 229 ∷ 190 ∷ 255 ∷ 255 ∷ 255 ∷ 255 ∷ 255 ∷ 255 ∷ [])
    ++ (96 ∷ 121 ∷ 254 ∷ 255 ∷ 255 ∷ 255 ∷ 255 ∷ 255 ∷ 96 ∷ 121 ∷ 254 ∷ 255 ∷ 255 ∷ 255 ∷ 255 ∷ 255 ∷ [])

-- what each line gets
abbrev given : List Part
given = part (negsuc 27777) (pos 272222) ∷ part (negsuc 55554) (negsuc 155554) ∷ part (negsuc 16666) (negsuc 16666) ∷ []

-- the same, and the user's amount twice
abbrev pub sample_parts : List Part
sample_parts = given ++ (part (negsuc 99999) (negsuc 99999) ∷ [])

sample_outcome : sharing_bytes 5000 sample_in 64 ≡ accepted (negsuc 199999) (negsuc 99999) given
unfolding sharing_bytes if_room parts_written sharing_in_turn settled parts user_amount generators_amount gap line_is_sound apportion fen_per_thousandth lines_by reserved_zero fields_at le_at
sample_outcome = refl

-- three lines' room is not enough
pub sample_9 : sharing_bytes 5000 sample_in 63 ≡ sharing_refused 9 0
unfolding sharing_bytes if_room parts_written sharing_in_turn settled parts user_amount generators_amount gap line_is_sound apportion fen_per_thousandth lines_by reserved_zero fields_at le_at
sample_9 = refl

sample_written : parts_written (sharing_bytes 5000 sample_in 64) ≡ sample_parts
unfolding parts_written
sample_written = ap parts_written sample_outcome

sample_spelt : (ps : List Part) → ps ≡ sample_parts → parts_bytes ps ≡ sample_out
unfolding parts_bytes part_bytes le_bytes
sample_spelt ps e = ap parts_bytes e

-- THE SAMPLE IN BYTES: these 72 bytes in, and an output of 64, give R −200000 and these 64 bytes.
pub sample_bytes : (before after : List ℕ) (r : Answer) → length before ≡ 64 → BytesShared 5000 sample_in before after r
    → (r ≡ record { number = 0; place = 0; gap = record { 0 = negsuc 199999 }; user = record { 0 = negsuc 99999 } }) × (after ≡ sample_out)
sample_bytes before after r l b =
    let o : sharing_bytes 5000 sample_in (length before) ≡ sharing_bytes 5000 sample_in 64 = ap (sharing_bytes 5000 sample_in) l in
    let spelt : parts_bytes (parts_written (sharing_bytes 5000 sample_in (length before))) ≡ sample_out = sample_spelt _ (ap parts_written o ∙ sample_written) in (
      b.says ∙ ap answer_of (o ∙ sample_outcome),
      b.bytes.is ∙ ap (λ (xs : List ℕ). sets before 0 xs) spelt ∙ sets-eq sample_out before 0 (omega arith)
          ∙ ap (λ (xs : List ℕ). sample_out ++ xs) (drop_of_length-le before {i = 64} (omega arith)) ∙ append-nil sample_out,
    )

-- A tool reads of them the shares and amounts, and the user's amount behind them.
pub sample_read : parts_at sample_out 4 ≡ sample_parts
unfolding parts_from part_at le_at
sample_read = refl

-- The promises of what is read hold of these bytes: their conditions can be met.
sample_shared : BytesShared 5000 sample_in (replicate 64 0) sample_out (record { number = 0; place = 0; gap = record { 0 = negsuc 199999 }; user = record { 0 = negsuc 99999 } })
sample_shared =
    record {
      says = sym (ap answer_of sample_outcome);
      bytes = record { is = ap (λ (xs : List ℕ). sets (replicate 64 0) 0 xs) (sym (sample_spelt _ sample_written)) };
    }

pub sample_read_to_gap : sumℤ (map (λ p. p.share) (parts_at sample_out 4)) ≡ negsuc 199999
sample_read_to_gap = bytes_add_to_gap 5000 sample_in (replicate 64 0) sample_out _ sample_shared refl

pub sample_read_to_zero : sumℤ (map (λ p. p.amount) (parts_at sample_out 4)) ≡ pos 0
sample_read_to_zero = bytes_add_to_zero 5000 sample_in (replicate 64 0) sample_out _ sample_shared refl

pub sample_read_one_fen : nat_abs ((part_at sample_out 0).share *ℤ pos 3600 -ℤ negsuc 99999 *ℤ pos 1000) < 3600
unfolding lines_by fields_at le_at generators_amount gap fen_per_thousandth
sample_read_one_fen = bytes_one_fen 5000 sample_in (replicate 64 0) sample_out _ sample_shared refl 0 (lit< tt) blank_line (lit< tt)
