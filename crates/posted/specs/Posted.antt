-- The month's statement as the text of a file. Assumes nothing.
use Rattle.std.specs.Prelude.{Bool, true, false, cond, List, [], ◌∷◌, ◌++◌, ℕ, ◌+◌, ◌*◌, ℤ, take}
use Rattle.book.specs.declared.Header.{Header}
use Rattle.month.specs.declared.Fault.{Fault}
use Rattle.month.specs.declared.Fault.TheVariants.{NoFault, InPart, InRegister, InBook, Unlisted, OfMember, OfRamping, InSharing}
use Rattle.month.specs.declared.Row.{Row}
use Rattle.month.specs.declared.Statement.{Statement}
use Rattle.render.specs.Decimal.{word, field, signed_field}
use Rattle.render.specs.Room.{most_decimal}

-- the first line: whose month it is, how many calls its book has, and the generators' part of the gap
unfoldable pub head_text : Header → ℕ → ℕ → List ℕ
head_text h calls part =
    field "area " h.area ++ field " year " h.year ++ field " month " h.month ++ field " calls " calls ++ field " part " part ++ word "\n"

-- a member, how many ramping hours its file has, and what it earned and is charged: fen, and thousandths of a point
unfoldable pub earned_text : Row → List ℕ
earned_text r =
    field "member " r.number ++ field " hours " r.hours
    ++ field " grains " r.grains.0 ++ field " compensation " r.compensation.0 ++ field " assessment " r.assessment.0

-- what it carries: MWh, its weight, and its share of the first sharing, in fen
unfoldable pub carried_text : Row → List ℕ
carried_text r = field " energy " r.energy.0 ++ field " weight " r.weight ++ signed_field " share " r.share.0

-- what is not collected of it, what it gives up, and what it gets, in fen
unfoldable pub got_text : Row → List ℕ
got_text r = field " uncollected " r.uncollected.0 ++ field " given " r.given.0 ++ signed_field " amount " r.amount.0 ++ word "\n"

-- a member's line
unfoldable pub row_text : Row → List ℕ
row_text r = earned_text r ++ carried_text r ++ got_text r

-- the members' lines, one behind the other
unfoldable pub rows_text : List Row → List ℕ
rows_text [] = []
rows_text (r ∷ rs) = row_text r ++ rows_text rs

-- the line behind them: R
unfoldable pub total_text : ℤ → List ℕ
total_text gap = signed_field "total " gap ++ word "\n"

-- the last line: the user's amount
unfoldable pub user_text : ℤ → List ℕ
user_text user = signed_field "user " user ++ word "\n"

-- the month was settled
unfoldable pub is_settled : Fault → Bool
is_settled NoFault = true
is_settled InPart = false
is_settled (InRegister line) = false
is_settled (InBook number place) = false
is_settled (Unlisted place) = false
is_settled (OfMember line number place) = false
is_settled (OfRamping line number place) = false
is_settled (InSharing number place) = false

-- THE STATEMENT AS A TEXT: its first line, a line for each member, R, the user's amount; no text of a month that was not settled
unfoldable pub posted_text : Statement → List ℕ
posted_text s =
    cond (is_settled s.fault)
    (head_text s.header s.calls s.part ++ rows_text (take s.count s.rows) ++ total_text s.gap.0 ++ user_text s.user.0)
    []

-- The most bytes: the words, and 20 for each number

abbrev pub most_head : ℕ
most_head = 32 + 5 * most_decimal

abbrev pub most_earned : ℕ
most_earned = 48 + 5 * most_decimal

abbrev pub most_carried : ℕ
most_carried = 23 + 3 * most_decimal

abbrev pub most_got : ℕ
most_got = 29 + 3 * most_decimal

abbrev pub most_row : ℕ
most_row = most_earned + most_carried + most_got

abbrev pub most_total : ℕ
most_total = 7 + most_decimal

abbrev pub most_user : ℕ
most_user = 6 + most_decimal

abbrev pub most_posted : ℕ
most_posted = most_head + 64 * most_row + most_total + most_user
