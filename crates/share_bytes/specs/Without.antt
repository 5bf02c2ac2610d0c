-- Sharing over bytes without a part, as it stood before request 2, its text letter for letter under names of its own. No code cites it: it is what
-- sharing over bytes with the whole part is compared with (`whole_part_bytes`, proofs/WholePart.antt). Assumes nothing.
use Rattle.std.specs.Prelude.{cond, List, ℕ, ◌*◌, ◌%◌, min, ltb, eqb, length}
use Rattle.share.specs.Sharing.{most_number}
use Rattle.share.specs.Without.{OutcomeWithout, refused_without, in_turn_without}
use Rattle.share_bytes.specs.Bytes.{line_size, first_bad_bytes, byte_count, byte_lines, part_size}

-- 10 in turn, a 65th line included, 15, 16
abbrev pub spelt_without : List ℕ → OutcomeWithout
spelt_without input = in_turn_without (first_bad_bytes 0 input 0 (min (byte_count input) most_number)) (byte_count input) (byte_lines input)

-- 9, last of all: the output is too short for what the lines get
unfoldable pub if_room_without : ℕ → OutcomeWithout → OutcomeWithout
if_room_without room o = cond (ltb room (part_size * length o.parts)) (refused_without 9 0) o

-- 1 comes first, where the length is no multiple of 24
unfoldable pub bytes_without : List ℕ → ℕ → OutcomeWithout
bytes_without input room = cond (eqb (length input % line_size) 0) (if_room_without room (spelt_without input)) (refused_without 1 0)
