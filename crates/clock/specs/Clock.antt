-- Minutes of the month as a date, lengths in hours and minutes: how they are written, and what such a text says. Assumes nothing.
use Rattle.std.specs.Prelude.{Bool, false, cond, ◌&&◌, ◌||◌, List, [], ◌∷◌, ◌++◌, ℕ, ◌+◌, ◌*◌, ◌-◌, ◌/◌, ◌%◌, eqb, ltb, leb, Option, Some, None}
use Rattle.units.specs.Month.{minutes_per_day}
use Rattle.row.specs.Numbers.{not_empty, is_number, value, hold, ceiling}
use Rattle.render.specs.Decimal.{word, digit, decimal}
use Rattle.render.specs.Room.{most_decimal}

-- hours have 60 minutes, days 24 hours
abbrev pub minutes_per_hour : ℕ
minutes_per_hour = 60

abbrev pub hours_per_day : ℕ
hours_per_day = 24

-- the bytes `/`, `:`, `h` and `m`
abbrev pub slash : ℕ
slash = 47

abbrev pub colon : ℕ
colon = 58

abbrev pub letter_h : ℕ
letter_h = 104

abbrev pub letter_m : ℕ
letter_m = 109

-- Texts in parts

-- whether a text has such a byte
unfoldable pub has : ℕ → List ℕ → Bool
has mark [] = false
has mark (b ∷ bs) = eqb b mark || has mark bs

-- what stands before the first such byte; all of it, where there is none
unfoldable pub before : ℕ → List ℕ → List ℕ
before mark [] = []
before mark (b ∷ bs) = cond (eqb b mark) [] (b ∷ before mark bs)

-- what stands behind it
unfoldable pub behind : ℕ → List ℕ → List ℕ
behind mark [] = []
behind mark (b ∷ bs) = cond (eqb b mark) bs (behind mark bs)

-- the number that a text of digits says, held; any other text says 10^12, which is past every limit
unfoldable pub number_in : List ℕ → ℕ
number_in text = cond (is_number text) (hold (value 0 text)) ceiling

-- Reading

-- so many minutes, as many as 16 bits hold
unfoldable pub up_to16_bits : ℕ → Option ℕ
up_to16_bits n = cond (leb n 65535) (Some n) None

-- a day of the month from 1 on, an hour up to 23 and a minute up to 59, as minutes from the month's first midnight
unfoldable pub date_of : ℕ → ℕ → ℕ → ℕ → Option ℕ
date_of days day hour minute =
    cond (leb 1 day && leb day days && ltb hour hours_per_day && ltb minute minutes_per_hour)
    (up_to16_bits ((day - 1) * minutes_per_day + hour * minutes_per_hour + minute))
    None

-- a start: `16/00:00` in a month of so many days, or minutes
unfoldable pub start_of : ℕ → List ℕ → Option ℕ
start_of days text =
    cond (has slash text)
    (date_of days (number_in (before slash text)) (number_in (before colon (behind slash text))) (number_in (behind colon (behind slash text))))
    (up_to16_bits (number_in text))

-- minutes with `m` behind them or without
unfoldable pub minutes_in : List ℕ → ℕ
minutes_in text = cond (has letter_m text) (cond (not_empty (behind letter_m text)) ceiling (number_in (before letter_m text))) (number_in text)

-- the minutes behind the hours, if there are any
unfoldable pub rest_in : List ℕ → ℕ
rest_in text = cond (not_empty text) (minutes_in text) 0

-- a length: `45h`, `90m`, `1h30m`, or minutes
unfoldable pub length_of : List ℕ → Option ℕ
length_of text =
    cond (has letter_h text)
    (up_to16_bits (number_in (before letter_h text) * minutes_per_hour + rest_in (behind letter_h text)))
    (up_to16_bits (minutes_in text))

-- Writing

-- the last two digits of a number
unfoldable pub two_digits : ℕ → List ℕ
two_digits n = digit (n / 10 % 10) ∷ digit (n % 10) ∷ []

-- the hour and the minute of a day
unfoldable pub clock_text : ℕ → List ℕ
clock_text minutes = two_digits (minutes % minutes_per_day / minutes_per_hour) ++ word ":" ++ two_digits (minutes % minutes_per_hour)

-- minutes of the month as a date
unfoldable pub date_text : ℕ → List ℕ
date_text minutes = decimal (minutes / minutes_per_day + 1) ++ word "/" ++ clock_text minutes

-- so many hours, so many minutes
unfoldable pub hours_text : ℕ → List ℕ
hours_text n = decimal n ++ word "h"

unfoldable pub minutes_text : ℕ → List ℕ
minutes_text n = decimal n ++ word "m"

-- minutes as a length: hours where they are whole, minutes where they are fewer than an hour, else both
unfoldable pub length_text : ℕ → List ℕ
length_text minutes =
    cond (ltb minutes minutes_per_hour) (minutes_text minutes)
    (cond (eqb (minutes % minutes_per_hour) 0) (hours_text (minutes / minutes_per_hour))
    (hours_text (minutes / minutes_per_hour) ++ minutes_text (minutes % minutes_per_hour)))

-- the most bytes of each
abbrev pub most_date : ℕ
most_date = most_decimal + 1 + 2 + 1 + 2

abbrev pub most_length : ℕ
most_length = most_decimal + 1 + most_decimal + 1
