-- The name of a member's ramping file in the folder of the series. Assumes nothing.
use Rattle.std.specs.Prelude.{ℕ, ◌/◌, ◌%◌, List, ◌∷◌}
use Rattle.row.specs.Numbers.{digit_byte}
use Rattle.row.specs.Files.{slash, csv}

-- the bytes of `-ramping`, and of `.csv` behind them
abbrev pub ramping_csv : List ℕ
ramping_csv = 45 ∷ 114 ∷ 97 ∷ 109 ∷ 112 ∷ 105 ∷ 110 ∷ 103 ∷ csv

-- a member's ramping file in its folder: the tens and the ones of its number, and `-ramping.csv`
unfoldable pub ramping_name : ℕ → List ℕ
ramping_name member = slash ∷ digit_byte (member / 10 % 10) ∷ digit_byte (member % 10) ∷ ramping_csv
