-- An operation whose contract is an equation has one answer: one law, and under it each exported operation of that kind whose own crate has no lemma of its own. Assumes
-- nothing.
use mathlib.Core.Path.{◌≡◌, sym, ◌∙◌}
use mathlib.Core.List.{List}
use Prim.Native.Nat.{ℕ}
use Rattle.std.specs.Prelude.{Option}
use Rattle.units.specs.Money.{grains_to_fen}
use Rattle.units.specs.Month.{days_of, minutes_of, quarters_of}
use Rattle.call.specs.declared.Call.{Call}
use Rattle.field.specs.Field.{bad_field}
use Rattle.field.specs.Record.{bad_record}
use Rattle.pair.specs.Screening.{screen}
use Rattle.pay.specs.declared.Member.{Member}
use Rattle.pay.specs.Member.{member_is_sound}
use Rattle.score.specs.Scoring.{grains_earned}
use Rattle.against.specs.Against.{clash_place}
use Rattle.drawer.specs.Stale.{next_stale}
use Rattle.drawer.specs.Refused.{next_refused}
use Rattle.drawer.specs.Nothing.{adds_nothing}
use Rattle.drawer.specs.Apart.{apart_in}
use Rattle.month.specs.declared.Ramped.{Ramped}
use Rattle.month.specs.Settling.{earned_with, compensation_of}
use Rattle.intake.specs.Intake.{no_texts}
use Rattle.std.specs.Prelude.{Option}
use Rattle.faults.specs.declared.Wrong.{Wrong}
use Rattle.faults.specs.Faults.{is_sound as line_is_sound}
use Rattle.hours.specs.declared.Hours.{Hours}
use Rattle.hours.specs.Name.{ramping_name}
use Rattle.hour_faults.specs.declared.HourWrong.{HourWrong}
use Rattle.hour_faults.specs.declared.Finder.{Finder}
use Rattle.hour_faults.specs.HourFaults.{is_sound as hour_is_sound}
use Rattle.hour_faults.specs.Inner.{finder_is_settled}
use Rattle.hours_file.specs.Given.{hours_of, ramped_of}
use Rattle.wish.specs.declared.Wish.{Wish}
use Rattle.wish.specs.Wish.{verdict, old_in}
use Rattle.cutting.specs.Cutting.{cutting}
use Rattle.tabs.specs.Tabs.{tab_of}
use Rattle.tabs.specs.Outcome.{fitting}
use Rattle.names.specs.Names.{same, service_of, kind_of}

-- two answers that are both the one of an equation are one
abbrev pub OneAnswer : {A : Type 0} → A → Type 0
OneAnswer {A} answer = (r s : A) → r ≡ answer → s ≡ answer → r ≡ s

-- AN EQUATION DETERMINES ITS ANSWER.
pub determined : {A : Type 0} (answer : A) → OneAnswer answer
determined answer r s p q = p ∙ sym q

-- The calendar; fen, over C too

pub days_determined : (year month : ℕ) → OneAnswer (days_of year month)
days_determined year month = determined (days_of year month)

pub minutes_determined : (year month : ℕ) → OneAnswer (minutes_of year month)
minutes_determined year month = determined (minutes_of year month)

pub quarters_determined : (year month : ℕ) → OneAnswer (quarters_of year month)
quarters_determined year month = determined (quarters_of year month)

pub fen_determined : (grains : ℕ) → OneAnswer (grains_to_fen grains)
fen_determined grains = determined (grains_to_fen grains)

-- Books and their records

pub bad_field_determined : (minutes : ℕ) (x : Call) (reserved : ℕ) → OneAnswer (bad_field minutes x reserved)
bad_field_determined minutes x reserved = determined (bad_field minutes x reserved)

pub bad_record_determined : (book : List ℕ) (i : ℕ) → OneAnswer (bad_record book i)
bad_record_determined book i = determined (bad_record book i)

pub screen_determined : (first second : List ℕ) → OneAnswer (screen first second)
screen_determined first second = determined (screen first second)

pub fitting_determined : (book page : List ℕ) → OneAnswer (fitting book page)
fitting_determined book page = determined (fitting book page)

pub tab_determined : (page : List ℕ) (member : ℕ) → OneAnswer (tab_of page member)
tab_determined page member = determined (tab_of page member)

pub verdict_determined : (wish : Wish) (x : Call) (old : Option Call) → OneAnswer (verdict wish x old)
verdict_determined wish x old = determined (verdict wish x old)

pub old_determined : (book : List ℕ) (member number : ℕ) → OneAnswer (old_in book member number)
old_determined book member number = determined (old_in book member number)

pub cut_determined : (book : List ℕ) (member number at new : ℕ) → OneAnswer (cutting book member number at new)
cut_determined book member number at new = determined (cutting book member number at new)

pub stale_determined : (book joined : List ℕ) (i : ℕ) → OneAnswer (next_stale book joined i)
stale_determined book joined i = determined (next_stale book joined i)

pub refused_determined : (m : Member) (book : List ℕ) (i : ℕ) → OneAnswer (next_refused m book i)
refused_determined m book i = determined (next_refused m book i)

pub nothing_determined : (others book : List ℕ) → OneAnswer (adds_nothing others book)
nothing_determined others book = determined (adds_nothing others book)

pub apart_determined : (x y : Call) → OneAnswer (apart_in x y)
apart_determined x y = determined (apart_in x y)

-- A member's line, what it earns, and what stands against a call

pub member_determined : (m : Member) → OneAnswer (member_is_sound m)
member_determined m = determined (member_is_sound m)

pub earned_determined : (m : Member) (book series : List ℕ) → OneAnswer (grains_earned m book series)
earned_determined m book series = determined (grains_earned m book series)

pub clash_determined : (book : List ℕ) (i : ℕ) → OneAnswer (clash_place book i)
clash_determined book i = determined (clash_place book i)

pub compensation_determined : (m : Member) (book series : List ℕ) (ramped : Ramped) → OneAnswer (compensation_of (earned_with (grains_earned m book series) ramped))
compensation_determined m book series ramped = determined (compensation_of (earned_with (grains_earned m book series) ramped))

-- Files and words

pub line_sound_determined : (wrong : Option Wrong) → OneAnswer (line_is_sound wrong)
line_sound_determined wrong = determined (line_is_sound wrong)

pub hour_sound_determined : (wrong : Option HourWrong) → OneAnswer (hour_is_sound wrong)
hour_sound_determined wrong = determined (hour_is_sound wrong)

pub hour_settled_determined : (f : Finder) → OneAnswer (finder_is_settled f)
hour_settled_determined f = determined (finder_is_settled f)

pub ramping_name_determined : (member : ℕ) → OneAnswer (ramping_name member)
ramping_name_determined member = determined (ramping_name member)

pub hours_determined : (year month : ℕ) → OneAnswer (hours_of year month)
hours_determined year month = determined (hours_of year month)

pub ramped_determined : (h : Hours) → OneAnswer (ramped_of h)
ramped_determined h = determined (ramped_of h)

pub first_intake_determined : OneAnswer no_texts
first_intake_determined = determined no_texts

pub service_determined : (text : List ℕ) → OneAnswer (service_of text)
service_determined text = determined (service_of text)

pub kind_determined : (text : List ℕ) → OneAnswer (kind_of text)
kind_determined text = determined (kind_of text)

pub same_determined : (text name : List ℕ) → OneAnswer (same text name)
same_determined text name = determined (same text name)
