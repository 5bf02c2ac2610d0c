-- The sums below a month's table. Assumes nothing.
use Rattle.std.specs.Prelude.{ℕ, zero, suc, ◌+◌, ◌-◌, ◌*◌, ◌^◌, min, ℤ, pos, negsuc, get_or, List}
use Rattle.units.specs.Money.{fen_per_thousandth}
use Rattle.month.specs.declared.Row.{Row}
use Rattle.month.specs.Settling.{blank_row}
use Rattle.report.specs.declared.totals.Totals.{Totals}

-- fen, and more of them: the sum, held at the top of 64 bits (house rule)
unfoldable pub fen_plus : ℕ → ℕ → ℕ
fen_plus a b = min (a + b) (2 ^ 64 - 1)

-- what an amount above zero gives, and what one below zero takes
unfoldable pub due_of : ℤ → ℕ
due_of (pos n) = n
due_of (negsuc n) = 0

unfoldable pub owed_of : ℤ → ℕ
owed_of (pos n) = 0
owed_of (negsuc n) = suc n

-- how far two sums are apart
unfoldable pub apart : ℕ → ℕ → ℕ
apart a b = a - b + (b - a)

-- the sums with a line more: what it is paid in fen, what it is charged in thousandths of a point, and its amount
abbrev pub with_line : Totals → ℕ → ℕ → ℤ → Totals
with_line t paid charged amount =
    record {
      compensation = fen_plus t.compensation paid;
      assessment = fen_plus t.assessment (charged * fen_per_thousandth);
      due = fen_plus t.due (due_of amount);
      owed = fen_plus t.owed (owed_of amount);
    }

-- the sums with one member's line more
unfoldable pub with_row : Totals → Row → Totals
with_row t r = with_line t r.compensation.0 r.assessment.0 r.amount.0

-- the sums with the user's amount
unfoldable pub with_user : Totals → ℤ → Totals
with_user t user =
    record {
      compensation = t.compensation;
      assessment = t.assessment;
      due = fen_plus t.due (due_of user);
      owed = fen_plus t.owed (owed_of user);
    }

-- the sums of no lines
abbrev pub no_lines : Totals
no_lines = record { compensation = 0; assessment = 0; due = 0; owed = 0 }

-- the sums of so many lines: C, A, what is due to members and what members owe
unfoldable pub totals_of : List Row → ℕ → Totals
totals_of rows zero = no_lines
totals_of rows (suc n) = with_row (totals_of rows n) (get_or rows n blank_row)
