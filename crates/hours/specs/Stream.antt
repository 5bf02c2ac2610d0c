-- A ramping file that comes as a stream, in whatever parts: what a reader has read of it, and when its fault is known. Assumes nothing.
use Rattle.std.specs.Prelude.{◌≡◌, ℕ, Bool, true, false, cond, not, ◌&&◌, ◌||◌, List, [], ◌∷◌, ◌++◌, map, ◌==◌, nat_lt}
use Rattle.row.specs.Numbers.{line_feed}
use Rattle.grid.specs.Meaning.{row_by, head_left, blank_left, rows_left}
use Rattle.pay.specs.declared.Member.{Member}
use Rattle.hours.specs.declared.Reader.{Reader}
use Rattle.hours.specs.Hours.{hour_columns, as_hour_line, hour_lines, is_fault, read_hours}
use Rattle.hours.specs.Inner.{is_lost, Judged}

-- a line ends in these bytes
unfoldable pub has_feed : List ℕ → Bool
has_feed [] = false
has_feed (b ∷ bs) = b == line_feed || has_feed bs

-- the lines of a text that have ended: all up to its last line feed
unfoldable pub ended_part : List ℕ → List ℕ
ended_part [] = []
ended_part (b ∷ bs) = cond (has_feed (b ∷ bs)) (b ∷ ended_part bs) []

-- the reader has read just this text: its sheet has judged the lines that have ended, but for blank ones that are held back, and its grid is that of what is left, whatever
-- follows
pub record HasRead (m : Member) (hours : ℕ) (reader : Reader) (text : List ℕ) : Type 0 where
  pub ended : Judged m hours (hour_lines (ended_part text)) reader.sheet
  pub held : ℕ
  pub blank : reader.blank ≡ nat_lt 0 held
  pub left : (rest : List ℕ) → hour_lines (text ++ rest) ≡ hour_lines (ended_part text) ++ map as_hour_line (rows_left (row_by hour_columns) held reader.grid reader.ended rest)

-- no bytes that follow change what the text says
abbrev pub Settled : Member → ℕ → List ℕ → Type 0
Settled m hours text = (rest : List ℕ) → read_hours m hours (text ++ rest) ≡ read_hours m hours text

-- When reading stops

-- the line that is being read is bad whatever follows: it is no heading and not blank, and a blank line is held back before it, or no bytes can mend it
unfoldable pub is_spoilt : Reader → Bool
is_spoilt r = not (head_left r.grid []) && (not (blank_left r.grid []) && (r.blank || is_lost r.grid r.ended))

-- the fault is known: of the member or a line that has ended, or of the line that is being read
unfoldable pub reader_is_settled : Reader → Bool
reader_is_settled r = is_fault r.sheet.fault || is_spoilt r

-- a test whether to stop behind a text: true at the latest where the member, or a line that has ended, has a fault, and only where no bytes that follow change the answer
pub record Stops (m : Member) (hours : ℕ) (text : List ℕ) (test : Bool) : Type 0 where
  pub soon : is_fault (read_hours m hours (ended_part text)).fault ≡ true → test ≡ true
  pub late : test ≡ true → Settled m hours text
