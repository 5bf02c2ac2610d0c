-- Why a text is not taken, in words. Assumes nothing.
use Rattle.std.specs.Prelude.{List, [], ◌++◌, ℕ, ◌+◌, ◌-◌, ◌*◌, ◌^◌, min, Option, Some, None}
use Rattle.render.specs.Decimal.{word, decimal}
use Rattle.render.specs.Room.{most_decimal}
use Rattle.names.specs.Names.{month_word, most_word}
use Rattle.intake.specs.declared.Reason.{Reason}
use Rattle.intake.specs.declared.Reason.TheVariants.{NotLine, Beyond, OtherArea, OtherYear, NotLater, NotZero}

-- a line of the text, as people count it, from 1 on, and what is wrong with it
unfoldable pub line_text : ℕ → List ℕ → List ℕ
line_text line why = word "line " ++ decimal (min (line + 1) (2 ^ 64 - 1)) ++ why

-- another area or year than the statements before it
unfoldable pub other_text : List ℕ → ℕ → ℕ → List ℕ
other_text what own before = what ++ decimal own ++ word ", and the statements before it of " ++ (what ++ decimal before)

-- a month that does not come after the last
unfoldable pub not_later_text : ℕ → ℕ → List ℕ
not_later_text own before = month_word own ++ word " does not come after " ++ month_word before

-- the reason, behind statements of an area and a year, the last of them of a month; nothing where there is none
unfoldable pub reason_text : ℕ → ℕ → ℕ → Option Reason → List ℕ
reason_text area year month None = []
reason_text area year month (Some (NotLine line)) = line_text line (word " is not a line of a statement")
reason_text area year month (Some (Beyond line)) = line_text line (word " has a number beyond its limit")
reason_text area year month (Some (OtherArea own)) = other_text (word "area ") own area
reason_text area year month (Some (OtherYear own)) = other_text (word "year ") own year
reason_text area year month (Some (NotLater own)) = not_later_text own month
reason_text area year month (Some NotZero) = word "its amounts do not add up to zero"

-- The most bytes of each, besides those of what is named

abbrev pub most_line : ℕ
most_line = 5 + most_decimal

abbrev pub most_other : ℕ
most_other = 34 + 2 * most_decimal

abbrev pub most_not_later : ℕ
most_not_later = 21 + 2 * most_word

abbrev pub most_reason : ℕ
most_reason = most_other + 2 * 5
