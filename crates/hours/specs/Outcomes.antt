-- What reading a ramping file answers exactly when: a row for each fault and one for its hours, each with its condition and with those before it not met. Assumes nothing.
use Rattle.std.specs.Prelude.{◌≡◌, ℕ, ◌<◌, ◌≤◌, true, false, List, [], ◌∷◌, ◌++◌, length, take, slice_index_or}
use Rattle.pay.specs.declared.Member.{Member}
use Rattle.pay.specs.Member.{MemberWithin}
use Rattle.ramp.specs.Ramping.{most_actions, is_ramping, first_standard}
use Rattle.ramp.specs.Outcomes.{ActionWithin}
use Rattle.hours.specs.declared.HourLine.{HourLine}
use Rattle.hours.specs.declared.HoursFault.TheVariants.{OfMember, AtLine}
use Rattle.hours.specs.declared.Hours.{Hours}
use Rattle.hours.specs.Hours.{of_hour, last_hour, hours_refused, hours_paid}
use Rattle.hours.specs.Inner.{blank_hour_line}

-- a line within the limits behind the lines before it
pub record LineWithin (hours : ℕ) (before : List HourLine) (l : HourLine) : Type 0 where
  pub hour : l.hour < hours
  pub rises : last_hour before ≤ l.hour
  pub room : length (of_hour l.hour before) < most_actions
  pub action : ActionWithin (first_standard (of_hour l.hour before ++ l.action ∷ [])) l.action

-- line i is
abbrev pub LineWithinAt : ℕ → List HourLine → ℕ → Type 0
LineWithinAt hours ls i = LineWithin hours (take i ls) (slice_index_or ls i blank_hour_line)

-- the lines before line i are
abbrev pub LinesWithin : ℕ → List HourLine → ℕ → Type 0
LinesWithin hours ls i = (k : ℕ) → k < i → LineWithinAt hours ls k

-- register line and kind are good
pub record MayRead (m : Member) : Type 0 where
  pub line : MemberWithin m
  pub kind : is_ramping m.kind ≡ true

-- the answer r of reading a member's lines, a row each
pub data HoursOutcome (m : Member) (hours : ℕ) (ls : List HourLine) (r : Hours) : Type 0 where
  bad_member : r ≡ hours_refused (OfMember 10) → (MemberWithin m → ⊥) → HoursOutcome m hours ls r
  other_kind : r ≡ hours_refused (OfMember 12) → MemberWithin m → is_ramping m.kind ≡ false → HoursOutcome m hours ls r
  bad_line_lem : (i : ℕ) → r ≡ hours_refused (AtLine i) → MayRead m → i < length ls → LinesWithin hours ls i → (LineWithinAt hours ls i → ⊥) → HoursOutcome m hours ls r
  paid : r ≡ hours_paid m.rated.0 ls → MayRead m → LinesWithin hours ls (length ls) → HoursOutcome m hours ls r
