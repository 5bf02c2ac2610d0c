-- Weight 12 goes by the whole R, also where the generators' R is cut to zero: one line, retired, 100 MWh, 9,999 fen of compensation, at a part
-- of one hundredth of a percent. Assumes nothing.
use mathlib.Core.Path.{◌≡◌, refl}
use mathlib.Core.Bool.{true}
use mathlib.Core.List.{List, [], ◌∷◌}
use Prim.Native.Nat.{ℕ}
use lib.IntN.{pos, negsuc}
use lib.ListN.{get_or}
use Rattle.units.specs.Money.{fen_per_thousandth}
use Rattle.apportion.specs.Apportion.{apportion}
use Rattle.share.specs.declared.Line.{Line}
use Rattle.share.specs.Sharing.{gap, generators_amount, user_amount, line_is_sound, parts, settled, sharing_in_turn}
use Rattle.ceiling.specs.declared.LimitedLine.{LimitedLine}
use Rattle.ceiling.specs.Ceiling.{limit_is_sound, limited_is_sound, plain_lines, paid, beyond, positive, given_up, ceiled_parts, second_sharing, both_sharings, ceiling_in_turn, ceiling}
use Rattle.month.specs.declared.Statement.{Statement}
use Rattle.month.specs.Settling.{blank_row, row_of, rows_of, filled_rows, shared_month}

pub line : Line
line =
    record {
      number = 7;
      status = 2;
      energy = record { 0 = 100 };
      compensation = record { 0 = 9999 };
      assessment = record { 0 = 0 };
      share = record { 0 = pos 0 };
      amount = record { 0 = pos 0 };
    }

-- it has no limit
pub lines : List LimitedLine
lines = record { line = line; limit = record { none = true; fen = record { 0 = 0 } }; uncollected = record { 0 = 0 }; given = record { 0 = 0 } } ∷ []

-- The generators' R is cut to zero.
pub cut_to_zero : generators_amount 1 (plain_lines lines) ≡ 0
unfolding line lines generators_amount gap fen_per_thousandth
cut_to_zero = refl

-- the statement over whatever book
pub statement : List ℕ → Statement
statement book = shared_month 1 book lines (record { 0 = 599940000 } ∷ []) [] (ceiling 1 lines)

-- The weight is 1,200 all the same, the member keeps its compensation, and the user pays it.
pub weight_by_the_whole : (book : List ℕ)
    → (get_or (statement book).rows 0 blank_row
    ≡ record {
      grains = record { 0 = 599940000 };
      compensation = record { 0 = 9999 };
      weight = 1200;
      share = record { 0 = pos 0 };
      uncollected = record { 0 = 0 };
      given = record { 0 = 0 };
      amount = record { 0 = pos 9999 };
      assessment = record { 0 = 0 };
      energy = record { 0 = 100 };
      number = 7;
      hours = 0;
    })
    × ((statement book).user.0 ≡ negsuc 9998)
unfolding
    statement line lines shared_month filled_rows rows_of row_of ceiling ceiling_in_turn both_sharings second_sharing limited_is_sound limit_is_sound ceiled_parts given_up beyond paid positive
    sharing_in_turn settled parts generators_amount user_amount gap line_is_sound apportion fen_per_thousandth
weight_by_the_whole book = (refl, refl)
