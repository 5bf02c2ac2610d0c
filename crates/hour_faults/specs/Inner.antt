-- What a finder keeps of the lines that it has judged, and what it would find, whatever follows. It serves the contracts of the finder alone; what is wrong with a ramping
-- file is in HourFaults. Assumes nothing.
use Rattle.std.specs.Prelude.{ℕ, ◌+◌, ◌%◌, ◌^◌, Bool, cond, not, ◌&&◌, ◌||◌, List, [], ◌∷◌, ◌==◌, nat_le, slice_index, Option, Some, None, is_none, unwrap_or}
use Rattle.grid.specs.declared.Grid.{Grid}
use Rattle.grid.specs.Meaning.{head_left, blank_left, blank_behind, row_left, rows_left}
use Rattle.hours.specs.Hours.{hour_columns}
use Rattle.hours.specs.Inner.{one_if}
use Rattle.faults.specs.Faults.{first_line}
use Rattle.faults.specs.Inner.{as_told}
use Rattle.hour_faults.specs.declared.HourWrong.{HourWrong}
use Rattle.hour_faults.specs.declared.HourFound.{HourFound}
use Rattle.hour_faults.specs.declared.judge.Judge.{Judge}
use Rattle.hour_faults.specs.declared.Finder.{Finder}
use Rattle.hour_faults.specs.HourFaults.{is_sound, row_fault, none_found, found_or}

-- The lines judged so far

-- before any
unfoldable pub judge_first : ℕ → Judge
judge_first hours = record { wrong = None; hours = hours; count = 0; last = 0; filled = 0; first = 0 }

-- how many actions of an hour were taken; the standard rate that an action of its own rate must have, where its hour has n before it
unfoldable pub filled_for : Judge → ℕ → ℕ
filled_for j hour = cond (hour == j.last) j.filled 0

unfoldable pub standard_for : Judge → ℕ → ℕ → ℕ
standard_for j n own = cond (n == 0) own j.first

-- what is wrong with a row behind them
unfoldable pub judge_fault : Judge → List ℕ → Option HourWrong
judge_fault j row =
    row_fault j.hours j.last (filled_for j (slice_index row 0)) (standard_for j (filled_for j (slice_index row 0)) (slice_index row 6)) row

-- the judge behind a row without a fault, and behind one with a fault
unfoldable pub judge_taking : Judge → List ℕ → Judge
judge_taking j row =
    record {
      wrong = None;
      hours = j.hours;
      count = (j.count + 1) % 2 ^ 64;
      last = slice_index row 0;
      filled = (filled_for j (slice_index row 0) + 1) % 2 ^ 64;
      first = standard_for j (filled_for j (slice_index row 0)) (slice_index row 6);
    }

unfoldable pub judge_refusing : Judge → HourWrong → Judge
judge_refusing j wrong = record { wrong = Some wrong; hours = j.hours; count = j.count; last = j.last; filled = j.filled; first = j.first }

-- behind one of which this is wrong, or nothing
abbrev pub judge_with : Judge → List ℕ → Option HourWrong → Judge
judge_with j row None = judge_taking j row
judge_with j row (Some wrong) = judge_refusing j wrong

-- the judge behind a row: once a fault is found it stays
unfoldable pub judge_of : Judge → List ℕ → Judge
judge_of j row = cond (is_sound j.wrong) (judge_with j row (judge_fault j row)) j

-- behind many
unfoldable pub judge_all : Judge → List (List ℕ) → Judge
judge_all j [] = j
judge_all j (row ∷ rows) = judge_all (judge_of j row) rows

-- behind the end of a line: a heading or a blank line is not judged yet; a line behind a blank one that was held back makes that a fault
unfoldable pub judge_after : Judge → Bool → Grid → List ℕ → Judge
judge_after j blank grid ended =
    cond (head_left grid []) j (cond (blank_left grid []) j (judge_of j (cond blank [] (row_left as_told grid ended []))))

-- a blank line is held back behind the end of a line
unfoldable pub blank_after : Bool → Grid → Bool
blank_after blank grid = blank_behind grid blank

-- What is left

-- the line of a text's first row: one that is known, or that of what is left, where no digit and no line's end was read
unfoldable pub first_left : Option ℕ → List ℕ → ℕ
first_left first rest = unwrap_or first (first_line rest)

-- a fault behind so many rows without one, the first of them at a line
unfoldable pub found_by : ℕ → Judge → Option HourFound
found_by first j = found_or ((first + j.count) % 2 ^ 64) j.wrong none_found

-- the judge at the end of the text, if `rest` is what is left of it
unfoldable pub judge_left : Finder → List ℕ → Judge
judge_left f rest = judge_all f.judge (rows_left as_told (one_if f.blank) f.grid f.ended rest)

-- the line that is being read has its fault whatever follows: it is no heading and not blank, and a blank line is held back before it, or an eighth cell is begun
unfoldable pub fault_is_known : Finder → Bool
fault_is_known f = not (head_left f.grid []) && (not (blank_left f.grid []) && (f.blank || nat_le hour_columns f.grid.at))

-- a fault was found, or the line that is being read has it, at a line that is known: no bytes that follow change it
unfoldable pub finder_is_settled : Finder → Bool
finder_is_settled f = not (is_none f.first) && (not (is_sound f.judge.wrong) || fault_is_known f)

-- WHAT IS FOUND then
unfoldable pub found_left : Finder → List ℕ → Option HourFound
found_left f rest = found_by (first_left f.first rest) (judge_left f rest)
