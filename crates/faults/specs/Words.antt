-- What is wrong with a line in words: the file's name, the line, what is wrong and what is wanted. Assumes nothing.
use Rattle.std.specs.Prelude.{ℕ, ◌+◌, ◌*◌, ◌/◌, ◌%◌, cond, List, [], ◌∷◌, ◌++◌, length, ◌==◌, nat_lt, Option, Some, None}
use Rattle.row.specs.Numbers.{ceiling}
use Rattle.row.specs.Meaning.{most_columns}
use Rattle.render.specs.Decimal.{word, digit, decimal, field}
use Rattle.render.specs.Room.{most_decimal}
use Rattle.names.specs.Names.{month_word, most_word}
use Rattle.faults.specs.declared.Table.{Table}
use Rattle.faults.specs.declared.Table.TheVariants.{Register, Series}
use Rattle.faults.specs.declared.Wrong.{Wrong}
use Rattle.faults.specs.declared.Wrong.TheVariants.{Blank, Columns, NoNumber, Outside, NotAbove}

-- A line

-- the name of a register's column, counted from 1
unfoldable pub column_name : ℕ → List ℕ
column_name column =
    cond (column == 1) (word "MEMBER") (cond (column == 2) (word "KIND") (cond (column == 3) (word "KW")
    (cond (column == 4) (word "STATUS") (cond (column == 5) (word "MWH") (cond (column == 6) (word "THOUSANDTHS") (word "LIMIT"))))))

-- which cell it is: a line of a series has one alone
unfoldable pub column_text : Table → ℕ → List ℕ
column_text Register column = field "column " column ++ word ", " ++ column_name column
column_text Series column = word "the output"

-- a cell's number; one that was held is not told
unfoldable pub number_text : ℕ → List ℕ
number_text n = cond (nat_lt n ceiling) (field " " n) []

-- the limits of a number
unfoldable pub limits_text : ℕ → ℕ → List ℕ
limits_text least most = field " is none of " least ++ field " to " most

-- how many cells a line has; more than can be kept are told as many or more
unfoldable pub cells_text : ℕ → List ℕ
cells_text n = decimal n ++ cond (n == 1) (word " cell") (cond (n == most_columns) (word " cells or more") (word " cells"))

-- where they are too many, that a separator parts a number, also where it is quoted
unfoldable pub parted_text : ℕ → ℕ → List ℕ
parted_text n wanted = cond (nat_lt wanted n) (word " (a separator inside a number parts it, in quotes too)") []

-- more cells or fewer than a line has
unfoldable pub columns_text : ℕ → ℕ → List ℕ
columns_text n wanted = cells_text n ++ field ", a line has " wanted ++ parted_text n wanted

-- the column of a register that may say that there is none, by `-`
abbrev pub limit_column : ℕ
limit_column = 7

-- that a cell is no number, and which it could be
unfoldable pub neither_text : ℕ → ℕ → ℕ → List ℕ
neither_text column least most =
    cond (column == limit_column) (field " is neither a number from " least ++ field " to " most ++ word " nor - for none")
    (field " is no number from " least ++ field " to " most)

-- a cell that is no number
unfoldable pub no_number_text : Table → ℕ → ℕ → ℕ → List ℕ
no_number_text table column least most = column_text table column ++ neither_text column least most

-- a number outside its limits
unfoldable pub outside_text : Table → ℕ → ℕ → ℕ → ℕ → List ℕ
outside_text table column n least most = column_text table column ++ number_text n ++ limits_text least most

-- a member's number that does not rise
unfoldable pub not_above_text : ℕ → ℕ → List ℕ
not_above_text n before = field "member " n ++ field " does not come after member " before

-- what is wrong, and what is wanted; nothing where nothing is wrong
abbrev pub wrong_text : Table → Option Wrong → List ℕ
wrong_text table None = []
wrong_text table (Some Blank) = word "blank, and a line stands behind it"
wrong_text table (Some (Columns n wanted)) = columns_text n wanted
wrong_text table (Some (NoNumber column least most)) = no_number_text table column least most
wrong_text table (Some (Outside column n least most)) = outside_text table column n least most
wrong_text table (Some (NotAbove n before)) = not_above_text n before

-- which line it is
unfoldable pub line_text : ℕ → List ℕ
line_text line = field " line " line ++ word ": "

-- A FAULT IN WORDS, on one line behind the file's name
unfoldable pub fault_text : Table → List ℕ → ℕ → Option Wrong → List ℕ
fault_text table name line wrong = name ++ line_text line ++ wrong_text table wrong ++ word "\n"

-- A series' count of lines

-- the last three digits of a number, behind a comma
unfoldable pub thousand_text : ℕ → List ℕ
thousand_text n = 44 ∷ digit (n / 100 % 10) ∷ digit (n / 10 % 10) ∷ digit (n % 10) ∷ []

-- a number with a comma before its last three digits; a million has but one
unfoldable pub grouped : ℕ → List ℕ
grouped n = cond (nat_lt n 1000) (decimal n) (decimal (n / 1000) ++ thousand_text n)

-- how many lines something has
unfoldable pub has_text : ℕ → List ℕ
has_text n = word " has " ++ grouped n

-- whose month it is
unfoldable pub whose_text : ℕ → ℕ → List ℕ
whose_text year month = month_word month ++ field " " year

-- the same, and so many lines it has
unfoldable pub wanted_text : ℕ → ℕ → ℕ → List ℕ
wanted_text year month wanted = whose_text year month ++ has_text wanted ++ word "\n"

-- one line, or more
unfoldable pub lines_text : ℕ → List ℕ
lines_text n = cond (n == 1) (word " line, ") (word " lines, ")

-- A FILE OF SO MANY LINES, and so many the month has
unfoldable pub count_text : List ℕ → ℕ → ℕ → ℕ → ℕ → List ℕ
count_text name count year month wanted = name ++ has_text count ++ lines_text count ++ wanted_text year month wanted

-- The most bytes of each

abbrev pub most_name : ℕ
most_name = 11

abbrev pub most_column : ℕ
most_column = 9 + most_decimal + most_name

abbrev pub most_number : ℕ
most_number = 1 + most_decimal

abbrev pub most_limits : ℕ
most_limits = 16 + 2 * most_decimal

abbrev pub most_cells : ℕ
most_cells = 14 + most_decimal

abbrev pub most_parted : ℕ
most_parted = 54

abbrev pub most_neither : ℕ
most_neither = 26 + most_decimal + 4 + most_decimal + 15

abbrev pub most_wrong : ℕ
most_wrong = most_column + most_neither

abbrev pub most_grouped : ℕ
most_grouped = 4 + most_decimal

abbrev pub most_has : ℕ
most_has = 5 + most_grouped

abbrev pub most_whose : ℕ
most_whose = 1 + most_word + most_decimal

abbrev pub most_wanted : ℕ
most_wanted = most_whose + most_has + 1

abbrev pub most_line : ℕ
most_line = 8 + most_decimal

abbrev pub most_lines : ℕ
most_lines = 8

-- besides these bytes the file's name
abbrev pub most_fault : List ℕ → ℕ
most_fault name = 1 + most_line + most_wrong + length name

abbrev pub most_count : List ℕ → ℕ
most_count name = most_lines + most_has + most_wanted + length name
