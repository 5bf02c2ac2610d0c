-- What a reader's state says: the answer of a text of which it has read all but the rest. It serves the contracts of the reader's parts
-- alone; what a text says is in Text. Assumes nothing.
use Rattle.std.specs.Prelude.{◌≡◌, Bool, true, cond, ◌||◌, List, [], ◌∷◌, ◌++◌, map, ℕ, zero, suc, min, ◌-◌, ◌/◌, ◌≤◌, ◌<◌, ltb, eqb, length, get_or, take, drop, Option, Some, None}
use Rattle.row.specs.declared.Row.{Row}
use Rattle.row.specs.Numbers.{digit_byte, line_feed, lines_of, numbers_of}
use Rattle.row.specs.Meaning.{row_is_begun, row_numbers}
use Rattle.row.specs.Judging.{judged}
use Rattle.row.specs.Inner.{fair_by, SoFar, judged_on, left_from}
use Rattle.share.specs.declared.Line.{Line}
use Rattle.share.specs.Sharing.{most_part}
use Rattle.lines.specs.declared.sheet.Sheet.{Sheet}
use Rattle.lines.specs.declared.body.Listed.{Listed}
use Rattle.lines.specs.declared.body.Body.{Body}
use Rattle.lines.specs.declared.part.FirstLine.{FirstLine}
use Rattle.lines.specs.declared.Head.{Head}
use Rattle.lines.specs.declared.Reader.{Reader}
use Rattle.lines.specs.declared.Taken.{Taken}
use Rattle.lines.specs.Text.{space, line_columns, as_line, line_of, sharing_lines, part_then}

-- The line that is being read

-- the line, if `rest` is what is left of it; a number past every limit is held, and as bad as it stands
abbrev pub row_line : Row → List ℕ → Line
row_line row rest = as_line (row_numbers space (line_columns - 1) row rest)

-- a line that is not sound after no number is as bad as a blank one
abbrev pub fair_line : Line → Line
fair_line l = fair_by sharing_lines l

-- the line, if it ends here
abbrev pub line_in : Row → Line
line_in row = fair_line (row_line row [])

-- five numbers, the last of them by itself
abbrev pub five_of : List ℕ → ℕ → List ℕ
five_of ended value = take (line_columns - 1) ended ++ value ∷ []

-- the row after a byte of its line
pub record LineFollows (row : Row) (b : ℕ) (r : Row) : Type 0 where
  pub begun : row_is_begun r ≡ true
  pub line : (rest : List ℕ) → row_line r rest ≡ row_line row (b ∷ rest)

-- The bytes that end an open line best: if any bytes make it sound, these do

-- the highest number up to 64 that begins with the digits read; behind the first number, the lowest there is
unfoldable pub number_bytes : Row → List ℕ
number_bytes row =
    cond (ltb 0 row.at) (cond row.digit [] (digit_byte 0 ∷ []))
    (cond (eqb row.value 0) (digit_byte 6 ∷ digit_byte 4 ∷ [])
    (cond (ltb row.value 6) (digit_byte 9 ∷ [])
    (cond (eqb row.value 6) (digit_byte 4 ∷ []) [])))

-- so many further numbers, each 0
abbrev pub zeros : ℕ → List ℕ
zeros zero = []
zeros (suc n) = space ∷ digit_byte 0 ∷ zeros n

-- the open number ended, and the missing ones
abbrev pub best_bytes : Row → List ℕ
best_bytes row = number_bytes row ++ zeros (line_columns - 1 - row.at)

-- The lines behind the part

-- a whole line of text, its numbers held
abbrev pub whole_line : List ℕ → Line
whole_line bytes = as_line (numbers_of space line_columns bytes)

-- the lines that are left: the one that is being read, and those behind it
abbrev pub lines_left : Row → List (List ℕ) → List Line
lines_left row ls = left_from (row_is_begun row) (row_line row) whole_line ls

-- a sheet's lines, as they are judged so far
abbrev pub sheet_so_far : Sheet → SoFar Line
sheet_so_far sheet = record { refused = sheet.refused; before = sheet.before; count = sheet.count; all = sheet.lines }

-- the answer, if these lines are left
abbrev pub sheet_outcome : Sheet → List Line → Listed
sheet_outcome sheet ls = judged_on sharing_lines (sheet_so_far sheet) ls

-- the answer, if these lines of text are left
abbrev pub body_outcome : Body → List (List ℕ) → Listed
body_outcome body ls = sheet_outcome body.sheet (lines_left body.row ls)

-- the answer of the lines of which all but the rest is read
unfoldable pub body_meaning : Body → List ℕ → Listed
body_meaning body rest = body_outcome body (lines_of rest)

-- no bytes that follow change it
abbrev pub BodyStays : Body → Type 0
BodyStays body = (rest : List ℕ) → body_meaning body rest ≡ body_meaning body []

-- before any byte the lines are judged as they come
pub record BodyFresh (body : Body) : Type 0 where
  pub says : (ls : List (List ℕ)) → body_outcome body ls ≡ judged sharing_lines (map line_of ls)

-- The part's line

-- the part, if `rest` is what is left of its line
abbrev pub part_when : Row → List ℕ → ℕ
part_when row rest = get_or (row_numbers space 0 row rest) 0 (suc most_part)

-- a part above the limit is told as the first of these: it is above either way
abbrev pub fair_part : ℕ → ℕ
fair_part part = min part (suc most_part)

-- the answer while the part's line is being read, if `rest` is left of the text
unfoldable pub first_says : Row → Body → List ℕ → Taken
first_says row body rest = part_then (part_when row (get_or (lines_of rest) 0 [])) (body_outcome body (drop 1 (lines_of rest)))

-- the part's line was read up to a place: its end, or that of the bytes
pub record FirstLineIs (row : Row) (bytes : List ℕ) (r : FirstLine) : Type 0 where
  pub within : r.next ≤ length bytes
  pub says : (body : Body) (rest : List ℕ) → first_says r.row body (drop r.next bytes ++ rest) ≡ first_says row body (bytes ++ rest)
  pub ends : r.next < length bytes → get_or bytes r.next 0 ≡ line_feed

-- no bytes bring the part back to its limit: its line is bad, has more than one number, or is above it; where it has no digit yet, one has to come
unfoldable pub part_is_past : Row → Bool
part_is_past row = row.bad || ltb 0 row.at || ltb (cond row.digit most_part (most_part / 10)) row.value

-- The whole text

-- the answer where all but the rest is read: while the first line is not read, that line and what is behind it say; then the part and the lines
abbrev pub meaning_with : Option ℕ → Row → Body → List ℕ → Taken
meaning_with None first body rest = first_says first body rest
meaning_with (Some part) first body rest = part_then part (body_meaning body rest)

-- the answer of a text of which the reader has read all but the rest
unfoldable pub meaning : Reader → List ℕ → Taken
meaning reader rest = meaning_with reader.part reader.first reader.body rest

-- what some bytes have of the first line: it is not read to its end, or the lines behind it begin at a place of theirs
pub record HeadIs (s : Reader) (bytes : List ℕ) (h : Head) : Type 0 where
  pub within : h.next ≤ length bytes
  pub still : h.part ≡ None → (rest : List ℕ) → first_says h.first s.body rest ≡ meaning s (bytes ++ rest)
  pub behind : (part : ℕ) → h.part ≡ Some part → (rest : List ℕ) → part_then part (body_meaning s.body (drop h.next bytes ++ rest)) ≡ meaning s (bytes ++ rest)
