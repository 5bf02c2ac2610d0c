-- Lines that were all sound, and one more: what the sheet keeps of them judges it as the lines do. Assumes nothing.
use Rattle.std.proofs.Common.{
  ◌≡◌,
  ℕ,
  suc,
  ◌+◌,
  ◌*◌,
  ◌<◌,
  ◌≤◌,
  Bool,
  true,
  false,
  cond,
  eqb,
  ltb,
  leb,
  List,
  [],
  ◌∷◌,
  ◌++◌,
  length,
  refl,
  ap,
  ◌∙◌,
  append-nil,
  arith,
  length-append,
  ltb-true,
  lt-ltb,
  eqb-true,
  le-leb,
  leb-true,
}
use lib.Seq.{append_snoc}
use borrow.Author.Tests.{eqb-false}
use Rattle.le.proofs.Tests.{each, all, fails, holds_or_fails}
use Rattle.ramp.specs.declared.Action.{Action}
use Rattle.ramp.specs.Ramping.{most_actions, most_power, most_delay, most_ramp_rate, action_is_sound, first_standard, first_unsound, first_bad_action, no_action}
use Rattle.ramp.proofs.Sound.{within_of, of_within, unsound_behind, unsound_le}
use Rattle.ramp.proofs.Going.{so_far_within}
use Rattle.hours.specs.declared.HourLine.{HourLine}
use Rattle.hours.specs.Hours.{as_hour_line, of_hour, last_hour, hour_line_is_sound, first_bad_line}
use Rattle.hours.specs.Outcomes.{LineWithin}
use Rattle.hours.specs.Inner.{hour_line_fits, blank_hour_line, fair_hour_line, most_short, most_word, GoodHour}
use Rattle.hours.proofs.Lines.{of_its_hour, of_another, last_more, bad_behind}

-- A line that fits

-- the tests of a line behind others
abbrev line_tests : ℕ → List HourLine → HourLine → List Bool
line_tests hours ls l =
    leb (last_hour ls) l.hour ∷ ltb (length (of_hour l.hour ls)) most_actions ∷ action_is_sound (first_standard (of_hour l.hour ls ++ l.action ∷ [])) l.action ∷ []

abbrev pub word_tests : Action → List Bool
word_tests a =
    leb a.start.0 most_word ∷ leb a.end.0 most_word ∷ leb a.command.0 most_word ∷ leb a.delay most_word ∷ leb a.real most_word ∷ leb a.standard most_word ∷ []

-- a line's test and its limits as facts are one
module _ (hours : ℕ) (ls : List HourLine) (l : HourLine) where
  pub line_within : hour_line_is_sound hours ls l ≡ true → LineWithin hours ls l
  unfolding hour_line_is_sound
  line_within h =
      let p = each (ltb l.hour hours) (line_tests hours ls l) h in
      record { hour = ltb-true _ _ p.0; rises = leb-true _ _ p.1.0; room = ltb-true _ _ p.1.1.0; action = within_of _ _ p.1.1.1.0 }

  pub within_line : LineWithin hours ls l → hour_line_is_sound hours ls l ≡ true
  unfolding hour_line_is_sound
  within_line w =
      all (ltb l.hour hours) (line_tests hours ls l)
      (lt-ltb _ _ w.hour, (le-leb _ _ w.rises, (lt-ltb _ _ w.room, (of_within _ _ w.action, tt))))

word : (n most : ℕ) → most ≤ most_word → n ≤ most → leb n most_word ≡ true
word n most h k = le-leb n most_word (omega (arith, h, k))

sound_fits : (hours : ℕ) (ls : List HourLine) (l : HourLine) → hours ≤ most_short → hour_line_is_sound hours ls l ≡ true → hour_line_fits l ≡ true
unfolding hour_line_fits
sound_fits hours ls l few h =
    let w = line_within hours ls l h in
    let a = l.action in
    let i = w.action in
    let power : most_power ≤ most_word = omega arith in
    let delay : most_delay ≤ most_word = omega arith in
    let rate : most_ramp_rate ≤ most_word = omega arith in
    let hour = le-leb l.hour most_short (omega (arith, few, w.hour)) in
    let start = word a.start.0 most_power power i.powers.0 in
    let end = word a.end.0 most_power power i.powers.1 in
    let command = word a.command.0 most_power power i.powers.2 in
    let late = word a.delay most_delay delay i.delay in
    let real = word a.real most_ramp_rate rate i.rates.0 in
    let standard = word a.standard most_ramp_rate rate i.rates.1 in
    all (leb l.hour most_short) (word_tests a) (hour, (start, (end, (command, (late, (real, (standard, tt)))))))

blank_bad : (hours : ℕ) (ls : List HourLine) → hour_line_is_sound hours ls blank_hour_line ≡ true → ⊥
unfolding blank_hour_line no_action
blank_bad hours ls h = (line_within hours ls blank_hour_line h).action.some_rate refl

-- a line of no numbers is never sound
pub none_bad : (hours : ℕ) (ls : List HourLine) → hour_line_is_sound hours ls (as_hour_line []) ≡ false
unfolding as_hour_line
none_bad hours ls = fails (hour_line_is_sound hours ls (as_hour_line [])) (λ h. h) (λ h. (line_within hours ls (as_hour_line []) h).action.some_rate refl)

module _ (hours : ℕ) (few : hours ≤ most_short) (ls : List HourLine) (l : HourLine) where
  -- a line that is taken by its fair form is itself,
  pub fair_same : hour_line_is_sound hours ls (fair_hour_line l) ≡ true → fair_hour_line l ≡ l
  unfolding fair_hour_line
  fair_same h = go (hour_line_fits l) h
    where
      go : (t : Bool) → hour_line_is_sound hours ls (cond t l blank_hour_line) ≡ true → cond t l blank_hour_line ≡ l
      go true k = refl
      go false k = absurd (blank_bad hours ls k)

  -- and one that is not taken so is bad
  pub fair_bad : hour_line_is_sound hours ls (fair_hour_line l) ≡ false → hour_line_is_sound hours ls l ≡ false
  unfolding fair_hour_line
  fair_bad h = fails (hour_line_is_sound hours ls l) (λ k. k) (λ k. holds_or_fails (rw (sound_fits hours ls l few k) k) h)

-- Actions of one hour

none_good : GoodHour []
unfolding first_bad_action first_unsound
none_good = refl

pub good_most : (actions : List Action) → GoodHour actions → length actions ≤ most_actions
unfolding first_bad_action
good_most actions h = omega (arith, h)

pub good_sound : (actions : List Action) → GoodHour actions → first_unsound (first_standard actions) actions ≡ length actions
unfolding first_bad_action
good_sound actions h = omega (arith, h, unsound_le (first_standard actions) actions)

one_more : (actions : List Action) (a : Action) → GoodHour actions → length actions < most_actions → action_is_sound (first_standard (actions ++ a ∷ [])) a ≡ true → GoodHour (actions ++ a ∷ [])
unfolding first_bad_action first_unsound
one_more actions a h room s =
    let standard = first_standard (actions ++ a ∷ []) in
    let behind = unsound_behind standard actions (a ∷ []) (so_far_within actions (a ∷ []) (good_sound actions h)) in
    let one : first_unsound standard (a ∷ []) ≡ 1 = rw s in
    omega (arith, behind, one, length-append actions (a ∷ []), room)

-- Lines that were all sound

-- each hour's actions are good, hours past the last line's have none, and the lines are few
pub record AllSound (hours : ℕ) (ls : List HourLine) : Type 0 where
  pub all : first_bad_line hours [] ls ≡ length ls
  pub good : (hour : ℕ) → GoodHour (of_hour hour ls)
  pub later : (hour : ℕ) → last_hour ls < hour → of_hour hour ls ≡ []
  pub few : length ls ≤ most_actions * last_hour ls + length (of_hour (last_hour ls) ls)

-- one more line that is sound
pub sound_more : (hours : ℕ) (ls : List HourLine) (l : HourLine) → first_bad_line hours [] ls ≡ length ls → hour_line_is_sound hours ls l ≡ true
    → first_bad_line hours [] (ls ++ l ∷ []) ≡ length (ls ++ l ∷ [])
unfolding first_bad_line
sound_more hours ls l h t = let one : first_bad_line hours ls (l ∷ []) ≡ 1 = rw t in omega (arith, bad_behind hours [] ls (l ∷ []) h, one, length-append ls (l ∷ []))

none_sound : (hours : ℕ) → AllSound hours []
unfolding first_bad_line last_hour of_hour
none_sound hours = record { all = refl; good = λ hour. none_good; later = λ hour h. refl; few = omega arith }

module _ (hours : ℕ) (ls : List HourLine) (s : AllSound hours ls) (l : HourLine) (t : hour_line_is_sound hours ls l ≡ true) where
  abbrev within : LineWithin hours ls l
  within = line_within hours ls l t

  good_more : (hour : ℕ) → GoodHour (of_hour hour (ls ++ l ∷ []))
  good_more hour = go (eqb l.hour hour) refl
    where
      go : (u : Bool) → eqb l.hour hour ≡ u → GoodHour (of_hour hour (ls ++ l ∷ []))
      go true e = rw (← (eqb-true l.hour hour e), of_its_hour ls l) (one_more (of_hour l.hour ls) l.action (s.good l.hour) within.room (of_within _ _ within.action))
      go false e = rw (of_another ls l hour (eqb-false l.hour hour e)) (s.good hour)

  few_more : length ls + 1 ≤ most_actions * l.hour + (length (of_hour l.hour ls) + 1)
  few_more = go (eqb l.hour (last_hour ls)) refl
    where
      go : (u : Bool) → eqb l.hour (last_hour ls) ≡ u → length ls + 1 ≤ most_actions * l.hour + (length (of_hour l.hour ls) + 1)
      go true e = let is = eqb-true l.hour (last_hour ls) e in rw is (omega (arith, s.few))
      go false e = omega (arith, s.few, good_most (of_hour (last_hour ls) ls) (s.good (last_hour ls)), within.rises, eqb-false l.hour (last_hour ls) e)

  all_more : AllSound hours (ls ++ l ∷ [])
  all_more =
      let last = last_more ls l in
      let its : of_hour (last_hour (ls ++ l ∷ [])) (ls ++ l ∷ []) ≡ of_hour l.hour ls ++ l.action ∷ [] = ap (λ (h : ℕ). of_hour h (ls ++ l ∷ [])) last ∙ of_its_hour ls l in
      let many = length-append ls (l ∷ []) in
      let acts = length-append (of_hour l.hour ls) (l.action ∷ []) in
      record {
        all = sound_more hours ls l s.all t;
        good = good_more;
        later = λ hour h. of_another ls l hour (λ e. omega (arith, h, last, e)) ∙ s.later hour (omega (arith, h, last, within.rises));
        few = rw (its, last) (omega (arith, few_more, many, acts));
      }

-- they are so as soon as none is bad
sound_behind : (hours : ℕ) (before xs : List HourLine) → AllSound hours before → first_bad_line hours before xs ≡ length xs → AllSound hours (before ++ xs)
unfolding first_bad_line
sound_behind hours before [] s h = rw (append-nil before) s
sound_behind hours before (x ∷ xs) s h = go (hour_line_is_sound hours before x) refl h (sound_behind hours (before ++ x ∷ []) xs)
  where
    go : (t : Bool) → hour_line_is_sound hours before x ≡ t → cond t (suc (first_bad_line hours (before ++ x ∷ []) xs)) 0 ≡ suc (length xs)
        → (AllSound hours (before ++ x ∷ []) → first_bad_line hours (before ++ x ∷ []) xs ≡ length xs → AllSound hours ((before ++ x ∷ []) ++ xs)) → AllSound hours (before ++ x ∷ xs)
    go true e k rec = rw (← (append_snoc before x xs)) (rec (all_more hours before s x e) (omega (arith, k)))
    go false e k rec = absurd (omega (arith, k))

pub all_sound : (hours : ℕ) (ls : List HourLine) → first_bad_line hours [] ls ≡ length ls → AllSound hours ls
all_sound hours ls = sound_behind hours [] ls (none_sound hours)
