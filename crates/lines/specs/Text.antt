-- Sharing lines in a text, as the paper has them: lines end in a line feed, the last perhaps not; a line is five decimal numbers
-- parted by single blanks. Before them, on a line of its own, the generators' part, as request 2 has it. Over the whole text; how it is
-- read is not spoken of. Assumes nothing.
use Rattle.std.specs.Prelude.{cond, List, [], map, ℕ, suc, leb, eqb, pos, get_or, drop, replicate}
use Rattle.row.specs.Numbers.{lines_of, parts_of, numbers_in}
use Rattle.row.specs.Judging.{Judge, judged}
use Rattle.share.specs.declared.Line.{Line}
use Rattle.share.specs.declared.Shared.{Shared}
use Rattle.share.specs.Sharing.{line_is_sound, most_number, most_part, part_place}
use Rattle.share.specs.Forms.{blank_line, shared_array, nothing_shared}
use Rattle.lines.specs.declared.body.Listed.{Listed}
use Rattle.lines.specs.declared.Taken.{Taken}

-- Sharing lines

-- the numbers of a line are parted by single blanks
abbrev pub space : ℕ
space = 32

-- a line is five numbers
abbrev pub line_columns : ℕ
line_columns = 5

-- a sharing line by its five numbers: number, status, energy, compensation, assessment
abbrev pub as_line : List ℕ → Line
as_line ns =
    record {
      number = get_or ns 0 0;
      status = get_or ns 1 0;
      energy = record { 0 = get_or ns 2 0 };
      compensation = record { 0 = get_or ns 3 0 };
      assessment = record { 0 = get_or ns 4 0 };
      share = record { 0 = pos 0 };
      amount = record { 0 = pos 0 };
    }

-- the line that bytes spell; bytes that are not five decimal numbers say none, and a line of no numbers is blank
unfoldable pub line_of : List ℕ → Line
line_of bytes = as_line (numbers_in line_columns (parts_of space bytes))

-- the sharing lines of a text: those behind the first
unfoldable pub text_lines : List ℕ → List Line
text_lines text = map line_of (drop 1 (lines_of text))

-- The part

-- the part that bytes spell; bytes that are not one decimal number say none, which is as bad as a number above the limit
unfoldable pub part_in : List ℕ → ℕ
part_in bytes = get_or (numbers_in 1 (parts_of space bytes)) 0 (suc most_part)

-- the part of a text, on its first line; a text without a line has none
unfoldable pub text_part : List ℕ → ℕ
text_part text = part_in (get_or (lines_of text) 0 [])

-- Reading

-- sharing lines are judged by the paper's limits, their numbers rising; there are at most 64
abbrev pub sharing_lines : Judge Line Listed
sharing_lines =
    record {
      sound = line_is_sound;
      number = λ l. l.number;
      most = most_number;
      blank = blank_line;
      answer = λ number place count lines. record { number = number; place = place; count = count; lines = lines };
    }

-- what the lines say, with the part
abbrev pub with_part : ℕ → Listed → Taken
with_part part l = record { part = part; number = l.number; place = l.place; count = l.count; lines = l.lines }

-- 10 at 65 for the part, otherwise zeros
abbrev pub part_refused : Taken
part_refused = record { part = 0; number = 10; place = part_place; count = 0; lines = replicate most_number blank_line }

-- the part is judged before the lines
unfoldable pub part_then : ℕ → Listed → Taken
part_then part l = cond (leb part most_part) (with_part part l) part_refused

-- what a whole text says: its part, 10 at 65 where it is none; then its lines judged in turn, 10 at the first bad one, or all of them
unfoldable pub read_text : List ℕ → Taken
read_text text = part_then (text_part text) (judged sharing_lines (text_lines text))

-- the sharing of what was read, or its refusal and no lines
unfoldable pub taken_shared : Taken → Shared
taken_shared t =
    cond (eqb t.number 0) (shared_array t.part t.lines t.count) (nothing_shared t.number t.place)
