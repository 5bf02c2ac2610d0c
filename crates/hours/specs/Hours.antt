-- The text of a ramping file: a line an action, of seven numbers, the hour of the month from 0 on and the action's six; and what its hours pay. Over the
-- whole text; how it is read is not spoken of. Assumes nothing.
use Rattle.std.specs.Prelude.{ℕ, zero, suc, min, Bool, cond, not, ◌&&◌, List, [], ◌∷◌, ◌++◌, map, length, replicate, ◌==◌, nat_le, nat_lt, slice_index, Option, Some, None, is_some}
use Rattle.units.specs.declared.Grains.{Grains}
use Rattle.units.specs.Money.{grains_plus}
use Rattle.grid.specs.Grid.{rows_of}
use Rattle.pay.specs.declared.Member.{Member}
use Rattle.pay.specs.Member.{member_is_sound}
use Rattle.ramp.specs.declared.Action.{Action}
use Rattle.ramp.specs.Ramping.{most_actions, is_ramping, action_is_sound, first_standard, hour_grains}
use Rattle.hours.specs.declared.HourLine.{HourLine}
use Rattle.hours.specs.declared.HoursFault.{HoursFault}
use Rattle.hours.specs.declared.HoursFault.TheVariants.{OfMember, AtLine}
use Rattle.hours.specs.declared.Hours.{Hours}

-- Lines

-- a line is seven numbers
abbrev pub hour_columns : ℕ
hour_columns = 7

-- the hours of 31 days: no month has more
abbrev pub most_hours : ℕ
most_hours = 744

-- no month has more hours than that: a larger number is told as that many
unfoldable pub month_hours : ℕ → ℕ
month_hours hours = min hours most_hours

-- a line by its numbers: hour, power at the start, at the end, commanded power, delay, real rate, standard rate
unfoldable pub as_hour_line : List ℕ → HourLine
as_hour_line ns =
    record {
      hour = slice_index ns 0;
      action =
          record {
            start = record { 0 = slice_index ns 1 };
            end = record { 0 = slice_index ns 2 };
            command = record { 0 = slice_index ns 3 };
            delay = slice_index ns 4;
            real = slice_index ns 5;
            standard = slice_index ns 6;
          };
    }

-- the lines of a text; one that is not seven numbers is as bad as one of zeros, whose standard rate is zero
unfoldable pub hour_lines : List ℕ → List HourLine
hour_lines text = map as_hour_line (rows_of hour_columns text)

-- the actions of one hour, in their order
unfoldable pub of_hour : ℕ → List HourLine → List Action
of_hour hour [] = []
of_hour hour (l ∷ ls) = cond (l.hour == hour) (l.action ∷ of_hour hour ls) (of_hour hour ls)

-- Lines judged in turn

-- the hour of the last of some lines, 0 where there is none
unfoldable pub last_hour : List HourLine → ℕ
last_hour [] = 0
last_hour (l ∷ []) = l.hour
last_hour (l ∷ k ∷ ls) = last_hour (k ∷ ls)

-- a line is sound behind the lines before it, in a month of so many hours: its hour is one of the month's and not below theirs; its hour has no more than 60
-- actions with it; its action is within the limits, of the standard rate of its hour's first
unfoldable pub hour_line_is_sound : ℕ → List HourLine → HourLine → Bool
hour_line_is_sound hours before l =
    nat_lt l.hour hours && nat_le (last_hour before) l.hour
    && nat_lt (length (of_hour l.hour before)) most_actions
    && action_is_sound (first_standard (of_hour l.hour before ++ l.action ∷ [])) l.action

-- the place of the first line that is not sound behind those before it, or where all are, how many they are
unfoldable pub first_bad_line : ℕ → List HourLine → List HourLine → ℕ
first_bad_line hours before [] = 0
first_bad_line hours before (l ∷ ls) = cond (hour_line_is_sound hours before l) (suc (first_bad_line hours (before ++ l ∷ []) ls)) 0

-- What the hours pay

-- of so many hours from an hour on, what each pays
unfoldable pub pays_from : ℕ → List HourLine → ℕ → ℕ → List Grains
pays_from N ls hour zero = []
pays_from N ls hour (suc n) = record { 0 = hour_grains N (of_hour hour ls) } ∷ pays_from N ls (suc hour) n

-- and how many actions it has
unfoldable pub actions_from : List HourLine → ℕ → ℕ → List ℕ
actions_from ls hour zero = []
actions_from ls hour (suc n) = length (of_hour hour ls) ∷ actions_from ls (suc hour) n

-- how many hours have an action
unfoldable pub hours_with : List ℕ → ℕ
hours_with [] = 0
hours_with (n ∷ ns) = cond (n == 0) (hours_with ns) (suc (hours_with ns))

-- grains added up, held at the most
unfoldable pub grains_sum : List Grains → ℕ
grains_sum [] = 0
grains_sum (g ∷ gs) = grains_plus g.0 (grains_sum gs)

-- The answer

-- something is wrong
abbrev pub is_fault : Option HoursFault → Bool
is_fault fault = is_some fault

-- a fault, otherwise zeros
unfoldable pub hours_refused : HoursFault → Hours
hours_refused fault =
    record {
      fault = Some fault;
      count = 0;
      sum = record { 0 = 0 };
      grains = replicate most_hours (record { 0 = 0 });
      actions = replicate most_hours 0;
    }

-- each hour's grains and actions, how many hours there are, and their grains together
unfoldable pub hours_paid : ℕ → List HourLine → Hours
hours_paid N ls =
    record {
      fault = None;
      count = hours_with (actions_from ls 0 most_hours);
      sum = record { 0 = grains_sum (pays_from N ls 0 most_hours) };
      grains = pays_from N ls 0 most_hours;
      actions = actions_from ls 0 most_hours;
    }

-- the lines judged in turn: the first bad one, or the hours
unfoldable pub hours_of_lines : Member → ℕ → List HourLine → Hours
hours_of_lines m hours ls =
    cond (nat_lt (first_bad_line hours [] ls) (length ls)) (hours_refused (AtLine (first_bad_line hours [] ls)))
    (hours_paid m.rated.0 ls)

-- WHAT A RAMPING FILE SAYS of a member in a month of so many hours: 10 of the register line, 12 of another kind, the lowest bad line, or its hours
unfoldable pub read_hours : Member → ℕ → List ℕ → Hours
read_hours m hours text =
    cond (not (member_is_sound m)) (hours_refused (OfMember 10))
    (cond (not (is_ramping m.kind)) (hours_refused (OfMember 12))
    (hours_of_lines m hours (hour_lines text)))
