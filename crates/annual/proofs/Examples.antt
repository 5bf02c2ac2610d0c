-- Every month by its name in the year's table: the line of a member that is in one month alone. Assumes nothing.
use mathlib.Core.Path.{◌≡◌, refl}
use mathlib.Core.Bool.{true, false}
use mathlib.Core.List.{List, ◌++◌}
use Prim.Native.Nat.{ℕ, ◌-◌}
use Prim.Native.String.{String}
use lib.IntN.{pos}
use lib.ListN.{replicate, set}
use Rattle.units.specs.Money.{fen_per_thousandth}
use Rattle.units.specs.Month.{months_per_year}
use Rattle.render.specs.Decimal.{word, decimal_in, decimal}
use Rattle.render.specs.Yuan.{two_places, yuan, signed_yuan}
use Rattle.clock.specs.Clock.{before, behind}
use Rattle.names.specs.Names.{skip, word_at, months, month_word}
use Rattle.form.specs.Form.{flag, word_shown, shown, is_number, is_sign, byte_text, next_on, next_marked, taken_by, filled_from}
use Rattle.year.specs.declared.MemberYear.{MemberYear}
use Rattle.annual.specs.Forms.{member_values}
use Rattle.annual.specs.Texts.{is_present, line_text}

-- a member that is in one month alone, with 1 fen of compensation
abbrev alone_in : ℕ → MemberYear
alone_in month =
    record {
      months = set (replicate months_per_year false) (month - 1) true;
      sums = record { compensation = record { 0 = 1 }; assessment = record { 0 = 0 }; share = record { 0 = pos 0 }; amount = record { 0 = pos 1 } };
      largest = record { amount = record { 0 = pos 1 }; month = month };
    }

-- the line of member 7 in one month, by the month's short name and its whole one
abbrev line_of : String → String → List ℕ
line_of short whole =
    word "member 7 months " ++ word short ++ word " compensation 0.01 assessment 0.00 share 0.00 amount 0.01 largest 0.01 in " ++ word whole ++ word "\n"

-- THE MONTHS BY THEIR NAMES, each by itself.
pub each_month :
    (line_text 7 (alone_in 1) ≡ line_of "Jan" "January") × (line_text 7 (alone_in 2) ≡ line_of "Feb" "February") × (line_text 7 (alone_in 3) ≡ line_of "Mar" "March")
    × (line_text 7 (alone_in 4) ≡ line_of "Apr" "April") × (line_text 7 (alone_in 5) ≡ line_of "May" "May") × (line_text 7 (alone_in 6) ≡ line_of "Jun" "June")
    × (line_text 7 (alone_in 7) ≡ line_of "Jul" "July") × (line_text 7 (alone_in 8) ≡ line_of "Aug" "August") × (line_text 7 (alone_in 9) ≡ line_of "Sep" "September")
    × (line_text 7 (alone_in 10) ≡ line_of "Oct" "October") × (line_text 7 (alone_in 11) ≡ line_of "Nov" "November") × (line_text 7 (alone_in 12) ≡ line_of "Dec" "December")
unfolding line_text is_present member_values flag word_shown shown is_number is_sign byte_text next_on next_marked taken_by filled_from yuan signed_yuan two_places decimal decimal_in
    month_word word_at skip months before behind fen_per_thousandth
each_month = (refl, refl, refl, refl, refl, refl, refl, refl, refl, refl, refl, refl)
