-- The refusals of sharing over bytes as the paper's table has them, each with the condition under which it is given. Assumes nothing.
use Rattle.std.specs.Prelude.{◌≡◌, true, false, List, ◌⊎◌, ◌≢◌, ℕ, ◌+◌, ◌*◌, ◌%◌, ◌≤◌, ◌<◌, pos, length}
use Rattle.share.specs.Sharing.{most_number, most_compensation, most_part, part_place, compensated, generators_gap, all_weights, SharingOutcome, sharing_refused, sharing_accepted}
use Rattle.share.specs.Verdict.{SoundAt}
use Rattle.share_bytes.specs.Bytes.{line_size, part_size, reserved_zero, byte_count, byte_lines}

-- the reserved bytes of a line are zero, and its fields are those of a sound line
pub record SoundBytes (input : List ℕ) (k : ℕ) : Type 0 where
  pub reserved : reserved_zero input (line_size * k) ≡ true
  pub fields : SoundAt (byte_lines input) k

-- the lines before a place are
abbrev pub BytesSoundBefore : List ℕ → ℕ → Type 0
BytesSoundBefore input p = (k : ℕ) → k < p → SoundBytes input k

-- the lines can be shared: all are sound, C is at most 10^11, and the generators' R is 0 or there is a weight
pub record BytesShareable (part : ℕ) (input : List ℕ) : Type 0 where
  pub sound : BytesSoundBefore input (byte_count input)
  pub within : compensated (byte_lines input) ≤ most_compensation
  pub way : (generators_gap part (byte_lines input) ≡ pos 0) ⊎ (0 < all_weights (byte_lines input))

-- how many bytes are written
abbrev pub written_size : List ℕ → ℕ
written_size input = part_size * byte_count input + part_size

-- No. 1; 10 at 65 for the part; 10 at a line with a reserved byte that is not zero, at one with a bad field, and for a 65th; 15; 16; 9; and what
-- is written
pub data ByteVerdict (part : ℕ) (input : List ℕ) (room : ℕ) (o : SharingOutcome) : Type 0 where
  one : length input % line_size ≢ 0 → o ≡ sharing_refused 1 0 → ByteVerdict part input room o
  above : length input % line_size ≡ 0 → most_part < part → o ≡ sharing_refused 10 part_place → ByteVerdict part input room o
  reserved : length input % line_size ≡ 0 → part ≤ most_part → (p : ℕ) → p < most_number → p < byte_count input → BytesSoundBefore input p
      → reserved_zero input (line_size * p) ≡ false → o ≡ sharing_refused 10 p → ByteVerdict part input room o
  ten : length input % line_size ≡ 0 → part ≤ most_part → (p : ℕ) → p < most_number → p < byte_count input → BytesSoundBefore input p
      → reserved_zero input (line_size * p) ≡ true → (SoundAt (byte_lines input) p → ⊥) → o ≡ sharing_refused 10 p → ByteVerdict part input room o
  more : length input % line_size ≡ 0 → part ≤ most_part → most_number < byte_count input → BytesSoundBefore input most_number
      → o ≡ sharing_refused 10 most_number → ByteVerdict part input room o
  fifteen : length input % line_size ≡ 0 → part ≤ most_part → BytesSoundBefore input (byte_count input)
      → most_compensation < compensated (byte_lines input) → o ≡ sharing_refused 15 0 → ByteVerdict part input room o
  sixteen : length input % line_size ≡ 0 → part ≤ most_part → BytesSoundBefore input (byte_count input)
      → compensated (byte_lines input) ≤ most_compensation → generators_gap part (byte_lines input) ≢ pos 0 → all_weights (byte_lines input) ≡ 0
      → o ≡ sharing_refused 16 0 → ByteVerdict part input room o
  nine : length input % line_size ≡ 0 → part ≤ most_part → BytesShareable part input → room < written_size input → o ≡ sharing_refused 9 0
      → ByteVerdict part input room o
  written : length input % line_size ≡ 0 → part ≤ most_part → BytesShareable part input → written_size input ≤ room
      → o ≡ sharing_accepted part (byte_lines input) → ByteVerdict part input room o
