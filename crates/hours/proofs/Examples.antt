-- Files and what is read of them: three lines over two hours, and one that is refused. They show that the definitions are about something. Assumes nothing.
use Rattle.std.proofs.Common.{◌≡◌, ℕ, List, [], ◌∷◌, ◌++◌, set, replicate, refl}
use Rattle.units.specs.declared.Grains.{Grains}
use Rattle.units.specs.Money.{grains_plus}
use Rattle.row.specs.Numbers.{numbers_in}
use Rattle.grid.specs.Grid.{row_of, rows_of}
use Rattle.pay.specs.declared.Member.{Member}
use Rattle.pay.specs.Member.{member_is_sound}
use Rattle.ramp.specs.Ramping.{is_ramping, action_is_sound, first_standard, apart, is_right_way, move_of, error_of, k1, k2, k3, index, right_way, moves, distance, mean_index, hour_worth, hour_grains}
use Rattle.ramp.specs.Fractions.{fraction, plus, less, times, sum, mean, cut}
use Rattle.std.specs.Prelude.{None}
use Rattle.hours.specs.declared.HoursFault.TheVariants.{AtLine}
use Rattle.hours.specs.Hours.{most_hours, as_hour_line, hour_lines, of_hour, last_hour, hour_line_is_sound, first_bad_line, pays_from, actions_from, hours_with}
use Rattle.hours.specs.Hours.{grains_sum, hours_refused, hours_paid, hours_of_lines, read_hours}

-- member 7, coal of 300,000 kW
pub coal : Member
coal = record { number = 7; kind = 1; rated = record { 0 = 300000 } }

-- "3,100000,109000,110000,60,4500,3000"
pub first : List ℕ
first = 51 ∷ 44 ∷ 49 ∷ 48 ∷ 48 ∷ 48 ∷ 48 ∷ 48 ∷ 44 ∷ 49 ∷ 48 ∷ 57 ∷ 48 ∷ 48 ∷ 48 ∷ 44 ∷ 49 ∷ 49 ∷ 48 ∷ 48 ∷ 48 ∷ 48 ∷ 44 ∷ 54 ∷ 48 ∷ 44 ∷ 52 ∷ 53 ∷ 48 ∷ 48 ∷ 44 ∷ 51 ∷ 48 ∷ 48 ∷ 48 ∷ []

-- "5,100000,109000,110000,60,4500,3000"
pub second : List ℕ
second = 53 ∷ 44 ∷ 49 ∷ 48 ∷ 48 ∷ 48 ∷ 48 ∷ 48 ∷ 44 ∷ 49 ∷ 48 ∷ 57 ∷ 48 ∷ 48 ∷ 48 ∷ 44 ∷ 49 ∷ 49 ∷ 48 ∷ 48 ∷ 48 ∷ 48 ∷ 44 ∷ 54 ∷ 48 ∷ 44 ∷ 52 ∷ 53 ∷ 48 ∷ 48 ∷ 44 ∷ 51 ∷ 48 ∷ 48 ∷ 48 ∷ []

-- "5,109000,100001,100000,30,2999,3000"
pub third : List ℕ
third = 53 ∷ 44 ∷ 49 ∷ 48 ∷ 57 ∷ 48 ∷ 48 ∷ 48 ∷ 44 ∷ 49 ∷ 48 ∷ 48 ∷ 48 ∷ 48 ∷ 49 ∷ 44 ∷ 49 ∷ 48 ∷ 48 ∷ 48 ∷ 48 ∷ 48 ∷ 44 ∷ 51 ∷ 48 ∷ 44 ∷ 50 ∷ 57 ∷ 57 ∷ 57 ∷ 44 ∷ 51 ∷ 48 ∷ 48 ∷ 48 ∷ []

abbrev grains : ℕ → Grains
grains n = record { 0 = n }

-- Hour 3 has one action and hour 5 two: 984,600,000 and 1,778,103,211 grains, 2,762,703,211 together.
pub two_hours_lem : read_hours coal 744 (first ++ 10 ∷ second ++ 10 ∷ third)
    ≡ record {
      fault = None;
      count = 2;
      sum = grains 2762703211;
      grains = set (set (replicate most_hours (grains 0)) 3 (grains 984600000)) 5 (grains 1778103211);
      actions = set (set (replicate most_hours 0) 3 1) 5 2;
    }
unfolding coal first second third read_hours hours_of_lines hours_paid hour_lines as_hour_line of_hour last_hour hour_line_is_sound first_bad_line pays_from actions_from hours_with
    grains_sum grains_plus member_is_sound is_ramping action_is_sound first_standard rows_of row_of numbers_in apart is_right_way move_of error_of k1 k2 k3 index right_way moves
    distance mean_index hour_worth hour_grains fraction plus less times sum mean cut
two_hours_lem = refl

-- Hours that do not rise: line 1, behind line 0.
pub not_rising : read_hours coal 744 (second ++ 10 ∷ first ++ 10 ∷ []) ≡ hours_refused (AtLine 1)
unfolding coal first second read_hours hours_of_lines hour_lines as_hour_line of_hour last_hour hour_line_is_sound first_bad_line member_is_sound is_ramping action_is_sound first_standard
    rows_of row_of numbers_in
not_rising = refl
