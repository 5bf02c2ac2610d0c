-- What a plant's tool reads after an accepted `nwb_share`, from its output and the cell of R, and the paper's rules of it. Assumes nothing.
use mathlib.Core.Path.{◌≡◌, refl}
use mathlib.Core.List.{List, map}
use Prim.Native.Nat.{ℕ, ◌+◌, ◌*◌, ◌≤◌, ◌<◌}
use lib.IntN.{ℤ, pos, nat_abs, ◌+ℤ◌, ◌-ℤ◌, ◌*ℤ◌}
use lib.ListN.{length, get_or, take}
use lib.Seq.{sets}
use Rattle.share.specs.declared.Answer.{Answer}
use Rattle.share.specs.declared.Line.{Line}
use Rattle.share.specs.Sharing.{Part, assessment_fen, below, generators_gap, user_amount, weight_of, all_weights, sharing, most_part}
use Rattle.share.proofs.Promises.{sumℤ}
use Rattle.share_bytes.specs.Bytes.{byte_count, byte_lines, part_size, parts_bytes, user_part, part_at, parts_at, sharing_bytes, BytesShared}
use Rattle.share_bytes.specs.Verdict.{written_size}
use Rattle.share_bytes.specs.Without.{bytes_without}
use Rattle.share_bytes.proofs.ReadBack as bytes
use Rattle.share_bytes.proofs.WholePart.{whole_part_read}
use Rattle.nwb.specs.Told.{ToldShare}

-- number, cells and output are those of the sharing over bytes
abbrev answer : ℕ → List ℕ → List ℕ → ℕ → ℕ → ℤ → Answer
answer part input before number place gap =
    record { number = number; place = place; gap = record { 0 = gap }; user = record { 0 = (sharing_bytes part input (length before)).user } }

shared : (part : ℕ) (input before after : List ℕ) (number place : ℕ) (gap : ℤ) → ToldShare part input before after number place gap
    → BytesShared part input before after (answer part input before number place gap)
shared part input before after number place gap t =
    record {
      says = λ i. record { number = t.number_is i; place = t.place_is i; gap = record { 0 = t.gap_is i }; user = record { 0 = (sharing_bytes part input (length before)).user } };
      bytes = record { is = t.out_is };
    }

module _ (part : ℕ) (input before after : List ℕ) (place : ℕ) (gap : ℤ) (t : ToldShare part input before after 0 place gap) where
  told : BytesShared part input before after (answer part input before 0 place gap)
  told = shared part input before after 0 place gap t

  abbrev ls : List Line
  ls = byte_lines input

  -- A TOOL READS of each line its share and its amount,
  pub share_read : (k : ℕ) (d : Part) → k < byte_count input → part_at after k ≡ get_or (sharing part ls).parts k d
  share_read = bytes.part_back part input before after _ told refl

  -- far within 64 bits,
  pub share_read_within : (k : ℕ) → k < byte_count input → (nat_abs (part_at after k).share ≤ 100000000000) × (nat_abs (part_at after k).amount ≤ 200000000000)
  share_read_within = bytes.bytes_within part input before after _ told refl

  -- and behind the last line the user's amount, twice.
  pub share_read_user : part_at after (byte_count input) ≡ user_part (user_amount part ls)
  share_read_user = bytes.user_back part input before after _ told refl

  -- The shares that it reads add up to the R that it reads, the user's amount among them,
  pub share_read_to_gap : sumℤ (map (λ p. p.share) (parts_at after (byte_count input + 1))) ≡ gap
  share_read_to_gap = bytes.bytes_add_to_gap part input before after _ told refl

  -- the amounts to zero,
  pub share_read_to_zero : sumℤ (map (λ p. p.amount) (parts_at after (byte_count input + 1))) ≡ pos 0
  share_read_to_zero = bytes.bytes_add_to_zero part input before after _ told refl

  -- the user's amount is what the generators' R leaves of the R that it reads,
  pub share_read_parts_of_gap : generators_gap part ls +ℤ (part_at after (byte_count input)).amount ≡ gap
  share_read_parts_of_gap = bytes.bytes_parts_of_gap part input before after _ told refl

  -- each amount is compensation less assessment and the share that it reads,
  pub share_read_amount : (k : ℕ) → k < byte_count input → (d : Line)
      → (part_at after k).amount ≡ pos (get_or ls k d).compensation.0 -ℤ pos (assessment_fen (get_or ls k d)) +ℤ (part_at after k).share
  share_read_amount = bytes.bytes_amount part input before after _ told refl

  -- no share lies a fen or more from its exact part of the generators' R,
  pub share_read_one_fen : (k : ℕ) → k < byte_count input → (d : Line) → 0 < all_weights ls
      → nat_abs ((part_at after k).share *ℤ pos (all_weights ls) -ℤ generators_gap part ls *ℤ pos (weight_of (below ls) (get_or ls k d))) < all_weights ls
  share_read_one_fen = bytes.bytes_one_fen part input before after _ told refl

  -- and where all weights add up to 0, the generators' R is 0 with them, and so is each share that it reads.
  pub share_read_one_fen_none : (k : ℕ) → k < byte_count input → all_weights ls ≡ 0 → (generators_gap part ls ≡ pos 0) × ((part_at after k).share ≡ pos 0)
  share_read_one_fen_none = bytes.bytes_one_fen_none part input before after _ told refl

-- With the whole part, and room for all, number, place and R are those of before request 2, and so is what stands at the output's front, 16 bytes for
-- each line.
pub share_read_whole_part : (input before after : List ℕ) (number place : ℕ) (gap : ℤ) → written_size input ≤ length before
    → ToldShare most_part input before after number place gap → let old = bytes_without input (length before) in
    (number ≡ old.number) × (place ≡ old.place) × (gap ≡ old.gap)
    × (take (part_size * byte_count input) after ≡ take (part_size * byte_count input) (sets before 0 (parts_bytes old.parts)))
share_read_whole_part input before after number place gap h t =
    let w = whole_part_read input before after _ h (shared most_part input before after number place gap t) in
    (w.0, w.1, w.2, w.4)
