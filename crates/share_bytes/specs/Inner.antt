-- What inner contracts speak of, and how the two other forms take lines of bytes: one with a reserved byte that is not zero as a blank line,
-- which is as bad (`bad_read`, proofs/Reading.antt). Assumes nothing.
use Rattle.std.specs.Prelude.{◌≡◌, cond, List, ℕ, length}
use Rattle.le.specs.Le.{Stores}
use Rattle.share.specs.declared.Answer.{Answer}
use Rattle.share.specs.declared.Line.{Line}
use Rattle.share.specs.Sharing.{settled}
use Rattle.share.specs.Forms.{blank_line, answer_of}
use Rattle.share_bytes.specs.Bytes.{fields_at, reserved_zero, lines_by, parts_bytes, parts_written, if_room}

-- the line that is read at a place
unfoldable pub line_at : List ℕ → ℕ → Line
line_at bytes at = cond (reserved_zero bytes at) (fields_at bytes at) blank_line

-- so many lines from a place on
abbrev pub lines_at : List ℕ → ℕ → ℕ → List Line
lines_at bytes at n = lines_by (line_at bytes) at n

-- so many lines from the front of bytes, as they are spelt
abbrev pub spelt_lines : List ℕ → ℕ → List Line
spelt_lines bytes count = lines_by (fields_at bytes) 0 count

-- sound lines settled: the output as it was before and is after, and the answer
pub record BytesSettled (part : ℕ) (ls : List Line) (before after : List ℕ) (answer : Answer) : Type 0 where
  pub says : answer ≡ answer_of (if_room (length before) (settled part ls))
  pub bytes : Stores before 0 (parts_bytes (parts_written (if_room (length before) (settled part ls)))) after
