-- Sharing over bytes, as the plants' tools call it. Assumes nothing.
use Rattle.std.specs.Prelude.{◌≡◌, Bool, cond, ◌&&◌, List, [], ◌∷◌, ◌++◌, ℕ, zero, suc, ◌+◌, ◌*◌, ◌/◌, ◌%◌, min, ltb, eqb, ℤ, pos, length}
use Rattle.std.specs.Int.{w64}
use Rattle.std.proofs.Common.{of_z, to_z}
use Rattle.le.specs.Le.{le_at, le_bytes, Stores}
use Rattle.share.specs.declared.Answer.{Answer}
use Rattle.share.specs.declared.Line.{Line}
use Rattle.share.specs.Sharing.{Part, line_is_sound, SharingOutcome, sharing_refused, sharing_in_turn, most_number}
use Rattle.share.specs.Forms.{answer_of}

-- Lines in bytes

-- a sharing line is 24 bytes
abbrev pub line_size : ℕ
line_size = 24

-- number u16, status u8, a zero byte, energy u32, compensation u64, assessment u32, four zero bytes
unfoldable pub fields_at : List ℕ → ℕ → Line
fields_at bytes at =
    record {
      number = le_at bytes at 2;
      status = le_at bytes (at + 2) 1;
      energy = record { 0 = le_at bytes (at + 4) 4 };
      compensation = record { 0 = le_at bytes (at + 8) 8 };
      assessment = record { 0 = le_at bytes (at + 16) 4 };
      share = record { 0 = pos 0 };
      amount = record { 0 = pos 0 };
    }

-- the reserved bytes of a line are zero
unfoldable pub reserved_zero : List ℕ → ℕ → Bool
reserved_zero bytes at = eqb (le_at bytes (at + 3) 1) 0 && eqb (le_at bytes (at + 20) 4) 0

-- the line at a place is sound after the number `before`: its reserved bytes are zero, and its fields are sound
abbrev pub bytes_are_sound : ℕ → List ℕ → ℕ → Bool
bytes_are_sound before bytes at = reserved_zero bytes at && line_is_sound before (fields_at bytes at)

-- of so many lines from a place on, which of them is the first that is not sound; where all are, how many they are
abbrev pub first_bad_bytes : ℕ → List ℕ → ℕ → ℕ → ℕ
first_bad_bytes before bytes at zero = 0
first_bad_bytes before bytes at (suc n) =
    cond (bytes_are_sound before bytes at) (suc (first_bad_bytes (fields_at bytes at).number bytes (at + line_size) n)) 0

-- so many lines from a place on, each as it is read at its place
unfoldable pub lines_by : (ℕ → Line) → ℕ → ℕ → List Line
lines_by line at zero = []
lines_by line at (suc n) = line at ∷ lines_by line (at + line_size) n

-- how many lines bytes are
abbrev pub byte_count : List ℕ → ℕ
byte_count bytes = length bytes / line_size

-- the lines that bytes spell
abbrev pub byte_lines : List ℕ → List Line
byte_lines bytes = lines_by (fields_at bytes) 0 (byte_count bytes)

-- the 24 bytes of a line, and what lies behind them
unfoldable pub line_then : Line → List ℕ → List ℕ
line_then l rest =
    le_bytes 2 l.number ++ (le_bytes 1 l.status ++ (le_bytes 1 0 ++ (le_bytes 4 l.energy.0 ++ (le_bytes 8 l.compensation.0
    ++ (le_bytes 4 l.assessment.0 ++ (le_bytes 4 0 ++ rest))))))

-- the bytes of lines
unfoldable pub lines_bytes : List Line → List ℕ
lines_bytes [] = []
lines_bytes (l ∷ ls) = line_then l (lines_bytes ls)

-- The outcome in bytes

-- the outcome is 16 bytes a line, and 16 behind them
abbrev pub part_size : ℕ
part_size = 16

-- share i64, amount i64
unfoldable pub part_bytes : Part → List ℕ
part_bytes p = le_bytes 8 (of_z w64 p.share) ++ le_bytes 8 (of_z w64 p.amount)

-- what the lines get, one behind the other
unfoldable pub parts_bytes : List Part → List ℕ
parts_bytes [] = []
parts_bytes (p ∷ ps) = part_bytes p ++ parts_bytes ps

-- the last sixteen bytes are the user's amount twice
abbrev pub user_part : ℤ → Part
user_part user = record { share = user; amount = user }

-- what is written: what each line gets, and behind it the user's amount; on a refusal nothing
unfoldable pub parts_written : SharingOutcome → List Part
parts_written o = cond (eqb o.number 0) (o.parts ++ (user_part o.user ∷ [])) []

-- share and amount of a line as a plant's tool reads them: each a signed number of eight bytes, 16 bytes a line
unfoldable pub part_at : List ℕ → ℕ → Part
part_at bytes k = record { share = to_z w64 (le_at bytes (part_size * k) 8); amount = to_z w64 (le_at bytes (part_size * k + 8) 8) }

-- so many parts from the line k on, each as it is read at its place
unfoldable pub parts_from : (ℕ → Part) → ℕ → ℕ → List Part
parts_from part k zero = []
parts_from part k (suc n) = part k ∷ parts_from part (suc k) n

-- what is read of so many lines
abbrev pub parts_at : List ℕ → ℕ → List Part
parts_at bytes n = parts_from (part_at bytes) 0 n

-- Sharing over bytes

-- 10 at 65 for the part, 10 in turn, a 65th line included, 15, 16
abbrev pub sharing_spelt : ℕ → List ℕ → SharingOutcome
sharing_spelt part input = sharing_in_turn part (first_bad_bytes 0 input 0 (min (byte_count input) most_number)) (byte_count input) (byte_lines input)

-- 9, last of all: the output is too short for what is written
unfoldable pub if_room : ℕ → SharingOutcome → SharingOutcome
if_room room o = cond (ltb room (part_size * length (parts_written o))) (sharing_refused 9 0) o

-- 1 comes first, where the length is no multiple of 24
unfoldable pub sharing_bytes : ℕ → List ℕ → ℕ → SharingOutcome
sharing_bytes part input room = cond (eqb (length input % line_size) 0) (if_room room (sharing_spelt part input)) (sharing_refused 1 0)

-- the output as it was before and is after, and the answer: what each line gets and the user's amount stand at its front, bytes behind them
-- stay, and on a refusal all of it stays
pub record BytesShared (part : ℕ) (input before after : List ℕ) (answer : Answer) : Type 0 where
  pub says : answer ≡ answer_of (sharing_bytes part input (length before))
  pub bytes : Stores before 0 (parts_bytes (parts_written (sharing_bytes part input (length before)))) after
