-- WHAT IS WRONG WITH A RAMPING FILE: its first bad line, all lines of the file counted from 1. A line is judged behind those before it, by the limits of the hour's actions.
-- Over the whole text; how it is read is not spoken of. Assumes nothing.
use Rattle.std.specs.Prelude.{ℕ, suc, ◌-◌, ◌*◌, Bool, true, false, cond, ◌&&◌, List, [], ◌∷◌, ◌++◌, length, ◌==◌, nat_le, nat_lt, slice_index, Option, Some, None}
use Rattle.row.specs.Numbers.{ceiling}
use Rattle.grid.specs.Told.{rows_by}
use Rattle.ramp.specs.Ramping.{most_actions, most_power, most_delay, most_ramp_rate, most_over_standard, first_standard}
use Rattle.hours.specs.declared.HourLine.{HourLine}
use Rattle.hours.specs.Hours.{hour_columns, as_hour_line, of_hour, last_hour}
use Rattle.faults.specs.Faults.{first_line}
use Rattle.hour_faults.specs.declared.HourWrong.{HourWrong}
use Rattle.hour_faults.specs.declared.HourWrong.TheVariants.{Blank, Columns, NoNumber, Outside, Earlier, Full, OtherStandard, TooFast, NoMove}
use Rattle.hour_faults.specs.declared.HourFound.{HourFound}

-- nothing is wrong
abbrev pub is_sound : Option HourWrong → Bool
is_sound None = true
is_sound (Some wrong) = false

-- a first fault, and only where there is none, a second one
abbrev pub or_else : Option HourWrong → Option HourWrong → Option HourWrong
or_else None second = second
or_else (Some first) second = Some first

-- A column, counted from 1

-- what its cell says is a number, and within limits
unfoldable pub column_fault : ℕ → ℕ → ℕ → ℕ → Option HourWrong
column_fault column least most n = cond (nat_lt ceiling n) (Some (NoNumber column)) (cond (nat_le least n && nat_le n most) None (Some (Outside column n least most)))

-- the first is an hour of the month, from 0 on
unfoldable pub month_fault : ℕ → ℕ → Option HourWrong
month_fault hours n = cond (nat_lt ceiling n) (Some (NoNumber 1)) (cond (nat_lt n hours) None (Some (Outside 1 n 0 (hours - 1))))

-- the first of a line's cells that is wrong: hour, power at the start, at the end, commanded power, delay, real rate, standard rate
unfoldable pub cells_fault : ℕ → List ℕ → Option HourWrong
cells_fault hours row =
    or_else (month_fault hours (slice_index row 0)) (or_else (column_fault 2 0 most_power (slice_index row 1))
    (or_else (column_fault 3 0 most_power (slice_index row 2)) (or_else (column_fault 4 0 most_power (slice_index row 3))
    (or_else (column_fault 5 0 most_delay (slice_index row 4)) (or_else (column_fault 6 0 most_ramp_rate (slice_index row 5)) (column_fault 7 1 most_ramp_rate (slice_index row 6)))))))

-- Cells that are within their limits

-- the hour is not below that of the line before
unfoldable pub rising_fault : ℕ → ℕ → Option HourWrong
rising_fault last hour = cond (nat_le last hour) None (Some (Earlier hour last))

-- the hour has room for one action more than the n before it
unfoldable pub full_fault : ℕ → ℕ → Option HourWrong
full_fault n hour = cond (nat_lt n most_actions) None (Some (Full hour))

-- the standard rate is that of the hour's first action
unfoldable pub standard_fault : ℕ → ℕ → ℕ → Option HourWrong
standard_fault first hour n = cond (n == first) None (Some (OtherStandard n hour first))

-- the real rate is at most 100 times the standard
unfoldable pub fast_fault : ℕ → ℕ → Option HourWrong
fast_fault real standard = cond (nat_le real (most_over_standard * standard)) None (Some (TooFast real standard))

-- the commanded power is another than the start's
unfoldable pub move_fault : ℕ → ℕ → Option HourWrong
move_fault start command = cond (command == start) (Some (NoMove start)) None

-- the first of these that fails, behind a line of the last hour, where the line's own hour has n actions before it and its first action has a standard rate
unfoldable pub action_fault : ℕ → ℕ → ℕ → List ℕ → Option HourWrong
action_fault last n first row =
    or_else (rising_fault last (slice_index row 0)) (or_else (full_fault n (slice_index row 0)) (or_else (standard_fault first (slice_index row 0) (slice_index row 6))
    (or_else (fast_fault (slice_index row 5) (slice_index row 6)) (move_fault (slice_index row 1) (slice_index row 3)))))

-- A line, by what its cells say

-- it is blank, has more cells or fewer, one of them is wrong, or what they say together is
unfoldable pub row_fault : ℕ → ℕ → ℕ → ℕ → List ℕ → Option HourWrong
row_fault hours last n first row =
    cond (length row == 0) (Some Blank)
    (cond (length row == hour_columns) (or_else (cells_fault hours row) (action_fault last n first row)) (Some (Columns (length row) hour_columns)))

-- WHAT IS WRONG WITH A LINE behind the lines before it, in a month of so many hours
unfoldable pub hour_fault : ℕ → List HourLine → List ℕ → Option HourWrong
hour_fault hours before row =
    row_fault hours (last_hour before) (length (of_hour (slice_index row 0) before))
    (first_standard (of_hour (slice_index row 0) before ++ (as_hour_line row).action ∷ [])) row

-- A file

-- no fault
abbrev pub none_found : Option HourFound
none_found = None

-- a fault at its line, and only where there is none, what is found behind it
abbrev pub found_or : ℕ → Option HourWrong → Option HourFound → Option HourFound
found_or line None more = more
found_or line (Some wrong) more = Some (record { line = line; wrong = wrong })

-- the first fault of rows, the first of them at a line of the file and behind the lines before it
unfoldable pub found_from : ℕ → ℕ → List HourLine → List (List ℕ) → Option HourFound
found_from hours line before [] = none_found
found_from hours line before (row ∷ rows) = found_or line (hour_fault hours before row) (found_from hours (suc line) (before ++ as_hour_line row ∷ []) rows)

-- THE FIRST FAULT OF A RAMPING FILE, or none
unfoldable pub first_hour_fault : ℕ → List ℕ → Option HourFound
first_hour_fault hours text = found_from hours (first_line text) [] (rows_by (λ row. row) text)
