-- The series of a member: a line a quarter hour, of one number, the mean output in kW. Assumes nothing.
use Rattle.std.specs.Prelude.{cond, List, ◌∷◌, ◌++◌, map, ℕ, min, ◌/◌, ◌%◌, length, get_or, take, drop}
use Rattle.row.specs.Numbers.{not_empty, digit_byte}
use Rattle.row.specs.Files.{slash, csv}
use Rattle.grid.specs.Grid.{rows_of}

-- a line is one number
abbrev pub series_columns : ℕ
series_columns = 1

-- the largest u32 is no output: it stands for a line that is no number, and scoring refuses it with 11 at its index
abbrev pub no_output : ℕ
no_output = 4294967295

-- the output that a line's numbers say
unfoldable pub output_of : List ℕ → ℕ
output_of ns = cond (not_empty ns) (min (get_or ns 0 0) no_output) no_output

-- the outputs of a text
unfoldable pub series_of : List ℕ → List ℕ
series_of text = map output_of (rows_of series_columns text)

-- a lent list after reading, and how many of its values are of the text
pub record Filled : Type 0 where
  pub count : ℕ
  pub values : List ℕ

-- the first values are the text's, as many as there is room for; those behind them stay
unfoldable pub filled_with : List ℕ → List ℕ → Filled
filled_with before vs =
    record {
      count = min (length vs) (length before);
      values = take (length before) vs ++ drop (length vs) before;
    }

-- a member's series in its folder: the tens and the ones of its number, and `.csv`
unfoldable pub series_name : ℕ → List ℕ
series_name member = slash ∷ digit_byte (member / 10 % 10) ∷ digit_byte (member % 10) ∷ csv
