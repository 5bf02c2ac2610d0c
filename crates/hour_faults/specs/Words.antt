-- What is wrong with a line of a ramping file in words: the file's name, the line, what is wrong and what is wanted. What registers and series have too is said as there.
-- Assumes nothing.
use Rattle.std.specs.Prelude.{ℕ, ◌+◌, ◌*◌, cond, List, [], ◌++◌, length, ◌==◌, Option, Some, None}
use Rattle.render.specs.Decimal.{word, field}
use Rattle.render.specs.Room.{most_decimal}
use Rattle.faults.specs.Words.{number_text, limits_text, columns_text, line_text, most_number, most_line}
use Rattle.hour_faults.specs.declared.HourWrong.{HourWrong}
use Rattle.hour_faults.specs.declared.HourWrong.TheVariants.{Blank, Columns, NoNumber, Outside, Earlier, Full, OtherStandard, TooFast, NoMove}

-- the name of a column, counted from 1
unfoldable pub column_name : ℕ → List ℕ
column_name column =
    cond (column == 1) (word "HOUR") (cond (column == 2) (word "START") (cond (column == 3) (word "END")
    (cond (column == 4) (word "COMMAND") (cond (column == 5) (word "DELAY") (cond (column == 6) (word "REAL") (word "STANDARD"))))))

-- which cell it is
unfoldable pub column_text : ℕ → List ℕ
column_text column = field "column " column ++ word ", " ++ column_name column

-- which cell, and what it says
unfoldable pub cell_text : ℕ → ℕ → List ℕ
cell_text column n = column_text column ++ number_text n

-- a cell that is no number
unfoldable pub no_number_text : ℕ → List ℕ
no_number_text column = column_text column ++ word " is no number"

-- a number outside its limits
unfoldable pub outside_text : ℕ → ℕ → ℕ → ℕ → List ℕ
outside_text column n least most = cell_text column n ++ limits_text least most

-- an hour below that of the line before
unfoldable pub earlier_text : ℕ → ℕ → List ℕ
earlier_text hour last = field "hour " hour ++ field " stands behind hour " last ++ word ": hours must not fall"

-- an hour's 61st action
unfoldable pub full_text : ℕ → List ℕ
full_text hour = field "action 61 of hour " hour ++ word ": an hour has at most 60"

-- a standard rate that is not the hour's
unfoldable pub other_text : ℕ → ℕ → ℕ → List ℕ
other_text n hour first = cell_text 7 n ++ field " is not that of the first action of hour " hour ++ field ", " first

-- a real rate more than 100 times the standard
unfoldable pub fast_text : ℕ → ℕ → List ℕ
fast_text real standard = cell_text 6 real ++ field " is more than 100 times STANDARD, " standard

-- a commanded power that is the start's
unfoldable pub move_text : ℕ → List ℕ
move_text power = column_text 4 ++ field " is START, " power ++ word ": nothing is commanded"

-- what is wrong; nothing where nothing is
abbrev pub wrong_text : Option HourWrong → List ℕ
wrong_text None = []
wrong_text (Some Blank) = word "blank, and a line stands behind it"
wrong_text (Some (Columns n wanted)) = columns_text n wanted
wrong_text (Some (NoNumber column)) = no_number_text column
wrong_text (Some (Outside column n least most)) = outside_text column n least most
wrong_text (Some (Earlier hour last)) = earlier_text hour last
wrong_text (Some (Full hour)) = full_text hour
wrong_text (Some (OtherStandard n hour first)) = other_text n hour first
wrong_text (Some (TooFast real standard)) = fast_text real standard
wrong_text (Some (NoMove power)) = move_text power

-- A FAULT IN WORDS, on one line behind the file's name
unfoldable pub hour_fault_text : List ℕ → ℕ → Option HourWrong → List ℕ
hour_fault_text name line wrong = name ++ line_text line ++ wrong_text wrong ++ word "\n"

-- The most bytes of each

abbrev pub most_name : ℕ
most_name = 8

abbrev pub most_column : ℕ
most_column = 9 + most_decimal + most_name

abbrev pub most_cell : ℕ
most_cell = most_column + most_number

abbrev pub most_wrong : ℕ
most_wrong = most_cell + 43 + 2 * most_decimal

-- besides these bytes the file's name
abbrev pub most_hour_fault : List ℕ → ℕ
most_hour_fault name = 1 + most_line + most_wrong + length name
