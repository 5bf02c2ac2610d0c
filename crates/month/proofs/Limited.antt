-- A month within limits, worked out apart: two lines of 10 MWh, one of 100,000 fen of assessment, one of 1,000 fen of compensation, at half the gap.
-- Without a limit they pay 75,250 and get 25,750 fen, and the user gets 49,500. Assumes nothing.
use mathlib.Core.Path.{◌≡◌, refl}
use mathlib.Core.Bool.{true, false}
use mathlib.Core.List.{List, [], ◌∷◌}
use Prim.Native.Nat.{ℕ}
use lib.IntN.{ℤ, pos, negsuc}
use Rattle.units.specs.Money.{fen_per_thousandth}
use Rattle.apportion.specs.Apportion.{apportion}
use Rattle.share.specs.Sharing.{gap, generators_amount, user_amount, line_is_sound, parts, settled, sharing_in_turn}
use Rattle.ceiling.specs.declared.Limit.{Limit}
use Rattle.ceiling.specs.declared.LimitedLine.{LimitedLine}
use Rattle.ceiling.specs.Ceiling.{limit_is_sound, limited_is_sound, paid, beyond, positive, given_up, ceiled_parts, second_sharing, both_sharings, ceiling_in_turn, ceiling}
use Rattle.book.specs.Book.{header_at, count_at}
use Rattle.month.specs.declared.Fault.TheVariants.{NoFault, InSharing}
use Rattle.month.specs.declared.Row.{Row}
use Rattle.month.specs.declared.Statement.{Statement}
use Rattle.month.specs.Settling.{row_of, rows_of, filled_rows, month_refused, shared_month}

-- a line of 10 MWh with its limit, and a row of such a line
abbrev line : ℕ → ℕ → ℕ → Limit → LimitedLine
line number compensation assessment limit =
    record {
      line =
          record {
            number = number;
            status = 0;
            energy = record { 0 = 10 };
            compensation = record { 0 = compensation };
            assessment = record { 0 = assessment };
            share = record { 0 = pos 0 };
            amount = record { 0 = pos 0 };
          };
      limit = limit;
      uncollected = record { 0 = 0 };
      given = record { 0 = 0 };
    }

abbrev row : ℕ → ℕ → ℕ → ℕ → ℕ → ℤ → Row
row number compensation assessment uncollected given amount =
    record {
      number = number;
      hours = 0;
      grains = record { 0 = 0 };
      compensation = record { 0 = compensation };
      assessment = record { 0 = assessment };
      energy = record { 0 = 10 };
      weight = 100;
      share = record { 0 = pos 24750 };
      uncollected = record { 0 = uncollected };
      given = record { 0 = given };
      amount = record { 0 = amount };
    }

-- the first pays at most so much, the second has no limit
abbrev pub limited : ℕ → List LimitedLine
limited most = line 1 0 1000 (record { none = false; fen = record { 0 = most } }) ∷ line 2 1000 0 (record { none = true; fen = record { 0 = 0 } }) ∷ []

-- the statement over whatever book
abbrev pub limited_month : ℕ → List ℕ → Statement
limited_month most book = shared_month 5000 book (limited most) [] [] (ceiling 5000 (limited most))

-- Of the first 25,250 fen are not collected, and the second gives them up: they pay 50,000 and get 500 fen. The user's amount is not touched.
pub pays_its_limit : (book : List ℕ) → limited_month 50000 book
    ≡ record {
      fault = NoFault;
      header = header_at book;
      calls = count_at book;
      part = 5000;
      gap = record { 0 = pos 99000 };
      user = record { 0 = pos 49500 };
      count = 2;
      rows = filled_rows (row 1 0 1000 25250 0 (negsuc 49999) ∷ row 2 1000 0 0 25250 (pos 500) ∷ []);
    }
unfolding
    shared_month rows_of row_of ceiling ceiling_in_turn both_sharings second_sharing limited_is_sound limit_is_sound ceiled_parts given_up beyond paid positive
    sharing_in_turn settled parts generators_amount user_amount gap line_is_sound apportion fen_per_thousandth
pays_its_limit book = refl

-- A limit that leaves a fen more than the second gets: 17.
pub more_than_all_get : (book : List ℕ) → limited_month 49499 book ≡ month_refused (InSharing 17 0)
unfolding
    shared_month ceiling ceiling_in_turn both_sharings second_sharing limited_is_sound limit_is_sound ceiled_parts given_up beyond paid positive
    sharing_in_turn settled parts generators_amount user_amount gap line_is_sound apportion fen_per_thousandth
more_than_all_get book = refl
