-- What the inner contracts speak of, and no sentence of the request: the line that is being read, and the lines judged so far. What a file says is in Hours. Assumes
-- nothing.
use Rattle.std.specs.Prelude.{◌≡◌, ℕ, suc, ◌-◌, ◌≤◌, Bool, true, false, cond, not, ◌&&◌, ◌||◌, List, [], ◌∷◌, ◌++◌, map}
use Rattle.std.specs.Prelude.{length, take, replicate, ◌==◌, nat_le, nat_lt, slice_index_or, Option, Some, None}
use Rattle.row.specs.Numbers.{ceiling}
use Rattle.grid.specs.declared.cell.Cell.{Cell}
use Rattle.grid.specs.declared.cell.Cell.TheVariants.{Fresh, Bare, Opened, Quoted, Dashed, Closed, Bad}
use Rattle.grid.specs.declared.Grid.{Grid}
use Rattle.grid.specs.Meaning.{row_by, head_left, blank_left, row_left}
use Rattle.pay.specs.declared.Member.{Member}
use Rattle.pay.specs.Member.{member_is_sound}
use Rattle.ramp.specs.declared.Action.{Action}
use Rattle.ramp.specs.Ramping.{most_actions, is_ramping, action_is_sound, no_action, first_bad_action}
use Rattle.hours.specs.declared.HourLine.{HourLine}
use Rattle.hours.specs.declared.HoursFault.{HoursFault}
use Rattle.hours.specs.declared.HoursFault.TheVariants.{OfMember}
use Rattle.hours.specs.declared.Hours.{Hours}
use Rattle.hours.specs.declared.sheet.Sheet.{Sheet}
use Rattle.hours.specs.Hours.{hour_columns, most_hours, as_hour_line, of_hour, last_hour, first_bad_line, pays_from, actions_from, hours_refused, hours_of_lines}

-- The line that is being read

-- the largest u16 and u32
abbrev pub most_short : ℕ
most_short = 65535

abbrev pub most_word : ℕ
most_word = 4294967295

-- a line's numbers fit its fields
unfoldable pub hour_line_fits : HourLine → Bool
hour_line_fits l =
    nat_le l.hour most_short && nat_le l.action.start.0 most_word && nat_le l.action.end.0 most_word && nat_le l.action.command.0 most_word
    && nat_le l.action.delay most_word && nat_le l.action.real most_word && nat_le l.action.standard most_word

-- a line of zeros, which is never sound
unfoldable pub blank_hour_line : HourLine
blank_hour_line = record { hour = 0; action = no_action }

-- a line that does not fit is as bad as a blank one
unfoldable pub fair_hour_line : HourLine → HourLine
fair_hour_line l = cond (hour_line_fits l) l blank_hour_line

-- the line, if it ends here
abbrev pub ended_line : Grid → List ℕ → HourLine
ended_line grid ended = as_hour_line (row_left (row_by hour_columns) grid ended [])

-- seven numbers, the last of them by itself
abbrev pub seven_of : List ℕ → ℕ → List ℕ
seven_of ended value = take (hour_columns - 1) ended ++ value ∷ []

-- the lines that count, if it ends here: none of a heading or a blank line; otherwise the blank lines held back, and this one
unfoldable pub ended_lines : ℕ → Grid → List ℕ → List HourLine
ended_lines held grid ended =
    cond (head_left grid []) [] (cond (blank_left grid []) [] (map as_hour_line (replicate held [] ++ row_left (row_by hour_columns) grid ended [] ∷ [])))

-- how many blank lines are held back then
unfoldable pub held_after : ℕ → Grid → ℕ
held_after held grid = cond (head_left grid []) held (cond (blank_left grid []) (suc held) 0)

-- the open cell is no number or past every limit, whatever follows of it: all that stands for no number is above 10^12, which is above every limit
abbrev pub is_past : Cell → Bool
is_past Fresh = false
is_past (Bare v) = nat_le ceiling v
is_past Opened = false
is_past (Quoted v) = nat_le ceiling v
is_past Dashed = true
is_past (Closed n) = nat_le ceiling n
is_past Bad = true

-- one of the cells that ended is
unfoldable pub some_past : List ℕ → Bool
some_past [] = false
some_past (n ∷ ns) = nat_le ceiling n || some_past ns

-- NO BYTES MEND A LINE of which this is so: an eighth cell is begun, or a cell is no number or past every limit. Any other bad line is known at its end
unfoldable pub is_lost : Grid → List ℕ → Bool
is_lost grid ended = nat_le hour_columns grid.at || (some_past (take grid.at ended) || is_past grid.cell)

-- 1 where something is so, else 0
unfoldable pub one_if : Bool → ℕ
one_if some = cond some 1 0

-- The lines judged so far

-- what lines say of a member
unfoldable pub lines_say : Member → ℕ → List HourLine → Hours
lines_say m hours ls =
    cond (not (member_is_sound m)) (hours_refused (OfMember 10))
    (cond (not (is_ramping m.kind)) (hours_refused (OfMember 12))
    (hours_of_lines m hours ls))

-- how many actions of a line's hour the sheet has
unfoldable pub filled_for : Sheet → ℕ → ℕ
filled_for s hour = cond (hour == s.last) s.filled 0

-- the standard rate that an action must have, where its hour has n before it
unfoldable pub standard_for : Sheet → ℕ → Action → ℕ
standard_for s n a = cond (n == 0) a.standard (slice_index_or s.kept 0 no_action).standard

-- the sheet takes a line
unfoldable pub sheet_takes : Sheet → HourLine → Bool
sheet_takes s l =
    nat_lt l.hour s.hours && nat_le s.last l.hour
    && nat_lt (filled_for s l.hour) most_actions
    && action_is_sound (standard_for s (filled_for s l.hour) l.action) l.action

-- none of an hour's actions is bad
abbrev pub GoodHour : List Action → Type 0
GoodHour actions = first_bad_action actions ≡ length actions

-- the sheet before any line, with a fault of the member or none
pub record BlankSheet (m : Member) (month : ℕ) (told : Option HoursFault) (s : Sheet) : Type 0 where
  pub fault : s.fault ≡ told
  pub member : s.member ≡ m
  pub hours : s.hours ≡ month
  pub zeros : (s.count ≡ 0) × (s.last ≡ 0) × (s.filled ≡ 0)
  pub room : length s.kept ≡ most_actions
  pub grains : s.grains ≡ replicate most_hours (record { 0 = 0 })
  pub actions : s.actions ≡ replicate most_hours 0

-- the sheet has taken these lines of a member that may ramp
pub record Taken (m : Member) (hours : ℕ) (ls : List HourLine) (s : Sheet) : Type 0 where
  pub good : (member_is_sound m ≡ true) × (is_ramping m.kind ≡ true)
  pub sound : first_bad_line hours [] ls ≡ length ls
  pub member : s.member ≡ m
  pub month : (s.hours ≡ hours) × (hours ≤ most_short)
  pub count : s.count ≡ length ls
  pub last : s.last ≡ last_hour ls
  pub filled : s.filled ≡ length (of_hour (last_hour ls) ls)
  pub kept : take s.filled s.kept ≡ of_hour (last_hour ls) ls
  pub room : length s.kept ≡ most_actions
  pub grains : s.grains ≡ pays_from m.rated.0 ls 0 most_hours
  pub actions : s.actions ≡ actions_from ls 0 most_hours

-- the fault is told, whatever lines follow these
pub record Refused (m : Member) (hours : ℕ) (ls : List HourLine) (fault : HoursFault) : Type 0 where
  pub stays : (rest : List HourLine) → lines_say m hours (ls ++ rest) ≡ hours_refused fault

-- the sheet has judged these lines
pub record Judged (m : Member) (hours : ℕ) (ls : List HourLine) (s : Sheet) : Type 0 where
  pub no : (fault : HoursFault) → s.fault ≡ Some fault → Refused m hours ls fault
  pub yes : s.fault ≡ None → Taken m hours ls s
