-- The sheet before any line, after a line that it takes, after one that it does not, and its answer. Assumes nothing.
use Rattle.std.proofs.Common.{
  ◌≡◌,
  ℕ,
  zero,
  suc,
  ◌+◌,
  ◌%◌,
  ◌^◌,
  ◌<◌,
  ◌≤◌,
  Bool,
  true,
  false,
  cond,
  ◌&&◌,
  eqb,
  ltb,
  leb,
  List,
  [],
  ◌∷◌,
  ◌++◌,
  map,
  length,
  get_or,
  take,
  set,
  replicate,
  sym,
  refl,
  ap,
  ◌∙◌,
  subst,
  append_assoc,
  append-nil,
  mod-eq_of_lt,
  zero-add,
  add-one,
  arith,
  length-append,
  length-set,
  get_or-take,
  take-suc-set,
  ltb-true,
  le-ltb,
  lt-ltb,
  eq-eqb,
  ne_eqb,
  eqb-true,
  leb-true,
}
use lib.Seq.{append_snoc}
use borrow.Author.Tests.{eqb-false}
use Rattle.le.proofs.Tests.{each, holds_or_fails}
use Rattle.std.specs.Prelude.{Option, Some, None, is_some, unwrap_or}
use Rattle.units.specs.declared.Grains.{Grains}
use Rattle.pay.specs.declared.Member.{Member}
use Rattle.pay.specs.Member.{most_rated, member_is_sound}
use Rattle.pay.proofs.Within.{line_of}
use Rattle.ramp.specs.declared.Action.{Action}
use Rattle.ramp.specs.Ramping.{most_actions, is_ramping, action_is_sound, first_standard, no_action, right_way, hour_grains}
use Rattle.grid.specs.declared.Grid.{Grid}
use Rattle.grid.specs.Meaning.{row_by, head_left, blank_left, blank_behind, row_left}
use Rattle.hours.specs.declared.HourLine.{HourLine}
use Rattle.hours.specs.declared.HoursFault.{HoursFault}
use Rattle.hours.specs.declared.HoursFault.TheVariants.{OfMember, AtLine}
use Rattle.hours.specs.declared.sheet.Sheet.{Sheet}
use Rattle.hours.specs.Hours.{
  hour_columns,
  most_hours,
  as_hour_line,
  of_hour,
  last_hour,
  hour_line_is_sound,
  first_bad_line,
  pays_from,
  hours_with,
  grains_sum,
  hours_refused,
  hours_paid,
  hours_of_lines,
}
use Rattle.hours.specs.Outcomes.{LineWithin}
use Rattle.hours.specs.Inner.{most_short, fair_hour_line, ended_line, ended_lines, held_after, lines_say, filled_for, standard_for, sheet_takes, BlankSheet, GoodHour, Taken, Refused, Judged}
use Rattle.hours.proofs.Lines.{of_its_hour, last_more, bad_behind, paid_for, pays_table, actions_table, table_none, table_more}
use Rattle.hours.proofs.Sound.{line_within, none_bad, good_most, fair_same, fair_bad, sound_more, all_sound}

-- What lines say of a member that may ramp

pub lines_of : (m : Member) (hours : ℕ) (ls : List HourLine) → (member_is_sound m ≡ true) × (is_ramping m.kind ≡ true) → lines_say m hours ls ≡ hours_of_lines m hours ls
unfolding lines_say
lines_of m hours ls g = rw (g.0, g.1)

-- A fault, or none

pub none_of : (o : Option HoursFault) → is_some o ≡ false → o ≡ None
none_of None h = refl
none_of (Some fault) h = absurd (holds_or_fails refl h)

pub apart : {o : Option HoursFault} {fault : HoursFault} → o ≡ Some fault → o ≡ None → ⊥
apart e n = holds_or_fails (ap (λ (x : Option HoursFault). is_some x) e) (ap (λ (x : Option HoursFault). is_some x) n)

pub same_fault : (a b : HoursFault) → Some a ≡ Some b → a ≡ b
same_fault a b e = ap (λ (x : Option HoursFault). unwrap_or x a) e

-- Before any line

module _ (m : Member) (hours : ℕ) (s : Sheet) where
  no_pays : (N n : ℕ) → replicate n (record { 0 = 0 }) ≡ pays_from N [] 0 n
  unfolding hour_grains right_way
  no_pays N n = sym (pays_table N [] 0 n ∙ table_none (paid_for N) 0 n)

  pub starts_taken : (member_is_sound m ≡ true) × (is_ramping m.kind ≡ true) → hours ≤ most_short → BlankSheet m hours None s → Judged m hours [] s
  unfolding of_hour last_hour first_bad_line
  starts_taken g short b =
      record {
        no = λ fault e. absurd (apart e b.fault);
        yes = λ e. record {
          good = g;
          sound = refl;
          member = b.member;
          month = (b.hours, short);
          count = b.zeros.0;
          last = b.zeros.1;
          filled = b.zeros.2;
          kept = ap (λ (n : ℕ). take n s.kept) b.zeros.2;
          room = b.room;
          grains = b.grains ∙ no_pays m.rated.0 most_hours;
          actions = b.actions ∙ sym (actions_table [] 0 most_hours ∙ table_none (λ actions. length actions) 0 most_hours);
        };
      }

  -- a member that may not is refused, whatever lines follow
  pub starts_refused : (fault : HoursFault) → ((ls : List HourLine) → lines_say m hours ls ≡ hours_refused fault) → BlankSheet m hours (Some fault) s → Judged m hours [] s
  starts_refused fault says b =
      record {
        no = λ other e. record { stays = λ ls. says ls ∙ ap (λ (f : HoursFault). hours_refused f) (same_fault fault other (sym b.fault ∙ e)) };
        yes = λ e. absurd (apart b.fault e);
      }

pub refused_10 : (m : Member) (hours : ℕ) → member_is_sound m ≡ false → (ls : List HourLine) → lines_say m hours ls ≡ hours_refused (OfMember 10)
unfolding lines_say
refused_10 m hours h ls = rw h

pub refused_12 : (m : Member) (hours : ℕ) → member_is_sound m ≡ true → is_ramping m.kind ≡ false → (ls : List HourLine) → lines_say m hours ls ≡ hours_refused (OfMember 12)
unfolding lines_say
refused_12 m hours h k ls = rw (h, k)

-- One line more

module _ (m : Member) (hours : ℕ) (ls : List HourLine) (s : Sheet) (k : Taken m hours ls s) where
  module _ (hour : ℕ) (rises : last_hour ls ≤ hour) where
    -- the sheet's actions of an hour that may follow are the lines'
    pub filled_is : (filled_for s hour ≡ length (of_hour hour ls)) × (take (filled_for s hour) s.kept ≡ of_hour hour ls)
    unfolding filled_for
    filled_is = go (eqb hour s.last) refl
      where
        go : (t : Bool) → eqb hour s.last ≡ t → (cond t s.filled 0 ≡ length (of_hour hour ls)) × (take (cond t s.filled 0) s.kept ≡ of_hour hour ls)
        go true e = rw (eqb-true hour s.last e ∙ k.last) (k.filled, k.kept)
        go false e = rw ((all_sound hours ls k.sound).later hour (omega (arith, rises, eqb-false hour s.last e, k.last))) (refl, refl)

  -- the standard rate that the sheet asks of an action is its hour's
  first_kept : (n : ℕ) (actions : List Action) (a : Action) → n ≡ length actions → take n s.kept ≡ actions → standard_for s n a ≡ first_standard (actions ++ a ∷ [])
  unfolding standard_for first_standard
  first_kept n [] a e t = rw (eq-eqb n 0 e)
  first_kept n (x ∷ actions) a e t =
      rw (ne_eqb n 0 (λ z. omega (arith, z, e))) (ap (λ (b : Action). b.standard) (sym (get_or-take n s.kept 0 no_action (omega (arith, e))) ∙ ap (λ (xs : List Action). get_or xs 0 no_action) t))

  -- so it takes just the lines that are sound
  pub takes_sound : (l : HourLine) → sheet_takes s l ≡ hour_line_is_sound hours ls l
  unfolding sheet_takes hour_line_is_sound
  takes_sound l =
      (λ i. ltb l.hour (k.month.0 i) && leb (k.last i) l.hour && ltb (filled_for s l.hour) most_actions
      && action_is_sound (standard_for s (filled_for s l.hour) l.action) l.action)
      ∙ go (ltb l.hour hours) (leb (last_hour ls) l.hour) refl
    where
      go : (t u : Bool) → leb (last_hour ls) l.hour ≡ u
          → (t && u && ltb (filled_for s l.hour) most_actions && action_is_sound (standard_for s (filled_for s l.hour) l.action) l.action)
          ≡ (t && u && ltb (length (of_hour l.hour ls)) most_actions && action_is_sound (first_standard (of_hour l.hour ls ++ l.action ∷ [])) l.action)
      go false u e = refl
      go true false e = refl
      go true true e =
          let h = filled_is l.hour (leb-true (last_hour ls) l.hour e) in
          λ i. ltb (h.0 i) most_actions && action_is_sound (first_kept (filled_for s l.hour) (of_hour l.hour ls) l.action h.0 h.1 i) l.action

  -- a line that is not sound is refused, whatever lines follow
  pub bad_refused : (l : HourLine) → hour_line_is_sound hours ls l ≡ false → Refused m hours (ls ++ l ∷ []) (AtLine s.count)
  unfolding hours_of_lines first_bad_line
  bad_refused l h =
      record {
        stays = λ rest.
            let split = append_snoc ls l rest in
            let none : first_bad_line hours ls (l ∷ rest) ≡ 0 = rw h in
            let place : first_bad_line hours [] (ls ++ l ∷ rest) ≡ s.count = omega (arith, bad_behind hours [] ls (l ∷ rest) k.sound, none, k.count) in
            let more : s.count < length (ls ++ l ∷ rest) = omega (arith, k.count, length-append ls (l ∷ rest)) in
            ap (lines_say m hours) split ∙ lines_of m hours (ls ++ l ∷ rest) k.good ∙ rw (place, lt-ltb s.count (length (ls ++ l ∷ rest)) more);
      }

  -- The answer

  pub answers : hours_paid m.rated.0 ls ≡ lines_say m hours ls
  unfolding hours_of_lines
  answers = sym (lines_of m hours ls k.good ∙ rw (k.sound, le-ltb (length ls) (length ls) (omega arith)))

  pub answered : (count sum : ℕ) → count ≡ hours_with s.actions → sum ≡ grains_sum s.grains
      → record { fault = None; count = count; sum = record { 0 = sum }; grains = s.grains; actions = s.actions } ≡ lines_say m hours ls
  unfolding hours_paid
  answered count sum e f = rw (e, f, k.grains, k.actions) answers

-- the answer where one was refused
pub refused_answer : (m : Member) (hours : ℕ) (ls : List HourLine) (fault : HoursFault) → Refused m hours ls fault → hours_refused fault ≡ lines_say m hours ls
refused_answer m hours ls fault r = sym (ap (lines_say m hours) (sym (append-nil ls)) ∙ r.stays [])

-- it stays so behind one line more
pub refused_more : (m : Member) (hours : ℕ) (ls : List HourLine) (l : HourLine) (fault : HoursFault) → Refused m hours ls fault → Refused m hours (ls ++ l ∷ []) fault
refused_more m hours ls l fault r = record { stays = λ rest. ap (lines_say m hours) (append_assoc ls (l ∷ []) rest) ∙ r.stays (l ∷ rest) }

refused_all : (m : Member) (hours : ℕ) (ls more : List HourLine) (fault : HoursFault) → Refused m hours ls fault → Refused m hours (ls ++ more) fault
refused_all m hours ls more fault r = record { stays = λ rest. ap (lines_say m hours) (append_assoc ls more rest) ∙ r.stays (more ++ rest) }

-- A blank line, whatever lines stand behind it

module _ (m : Member) (hours : ℕ) (ls more : List HourLine) (s : Sheet) (j : Judged m hours ls s) where
  pub stays_spoilt : is_some s.fault ≡ true → Judged m hours (ls ++ more) s
  stays_spoilt h =
      record { no = λ fault e. refused_all m hours ls more fault (j.no fault e); yes = λ e. absurd (holds_or_fails h (ap (λ (x : Option HoursFault). is_some x) e)) }

  pub spoilt_now : (r : Sheet) → s.fault ≡ None → r.fault ≡ Some (AtLine s.count) → Judged m hours (ls ++ as_hour_line [] ∷ more) r
  spoilt_now r on e =
      let bad = bad_refused m hours ls s (j.yes on) (as_hour_line []) (none_bad hours ls) in
      record {
        no = λ fault h. subst (λ (x : HoursFault). Refused m hours (ls ++ as_hour_line [] ∷ more) x) (same_fault (AtLine s.count) fault (sym e ∙ h))
            (subst (λ (x : List HourLine). Refused m hours x (AtLine s.count)) (append_snoc ls (as_hour_line []) more) (refused_all m hours (ls ++ as_hour_line [] ∷ []) more (AtLine s.count) bad));
        yes = λ h. absurd (apart e h);
      }

-- A line that is taken

-- there is room for its action
pub takes_room : (s : Sheet) (l : HourLine) → sheet_takes s l ≡ true → filled_for s l.hour < most_actions
unfolding sheet_takes
takes_room s l h =
    let n = filled_for s l.hour in
    let tests = leb s.last l.hour ∷ ltb n most_actions ∷ action_is_sound (standard_for s n l.action) l.action ∷ [] in
    ltb-true n most_actions (each (ltb l.hour s.hours) tests h).1.1.0

module _ (m : Member) (hours : ℕ) (ls : List HourLine) (s : Sheet) (k : Taken m hours ls s) (l : HourLine) (t : sheet_takes s l ≡ true) (n : ℕ) (is : n ≡ filled_for s l.hour) where
  abbrev is_sound_lem : hour_line_is_sound hours ls l ≡ true
  is_sound_lem = sym (takes_sound m hours ls s k l) ∙ t

  abbrev line : LineWithin hours ls l
  line = line_within hours ls l is_sound_lem

  abbrev its_actions : (n ≡ length (of_hour l.hour ls)) × (take n s.kept ≡ of_hour l.hour ls)
  its_actions = let h = filled_is m hours ls s k l.hour line.rises in (is ∙ h.0, ap (λ (x : ℕ). take x s.kept) is ∙ h.1)

  kept_more : (kept : List Action) → kept ≡ set s.kept n l.action → take (n + 1) kept ≡ of_hour l.hour ls ++ l.action ∷ []
  kept_more kept e =
      let h = its_actions in
      let room : n < length s.kept = omega (arith, h.0, line.room, k.room) in
      rw (e, add-one, take-suc-set s.kept n l.action room, h.1)

  pub taken_more : (r : Sheet) (pay : Grains)
      → r.member ≡ s.member → r.hours ≡ s.hours → r.count ≡ (s.count + 1) % 2 ^ 64 → r.last ≡ l.hour → r.filled ≡ n + 1
      → r.kept ≡ set s.kept n l.action → r.grains ≡ set s.grains l.hour pay → r.actions ≡ set s.actions l.hour (n + 1)
      → ((1 ≤ s.member.rated.0) × (s.member.rated.0 ≤ most_rated) → GoodHour (take (n + 1) (set s.kept n l.action)) → pay.0 ≡ hour_grains s.member.rated.0 (take (n + 1) (set s.kept n l.action)))
      → Taken m hours (ls ++ l ∷ []) r
  taken_more r pay member month count last filled kept grains actions pays =
      let h = its_actions in
      let now_sound : first_bad_line hours [] (ls ++ l ∷ []) ≡ length (ls ++ l ∷ []) = sound_more hours ls l k.sound is_sound_lem in
      let before = all_sound hours ls k.sound in
      let after = all_sound hours (ls ++ l ∷ []) now_sound in
      let ends = last_more ls l in
      let its : of_hour (last_hour (ls ++ l ∷ [])) (ls ++ l ∷ []) ≡ of_hour l.hour ls ++ l.action ∷ [] = ap (λ (x : ℕ). of_hour x (ls ++ l ∷ [])) ends ∙ of_its_hour ls l in
      let now = kept_more r.kept kept in
      let more = length-append (of_hour l.hour ls) (l.action ∷ []) in
      let many = length-append ls (l ∷ []) in
      let low : s.count + 1 < 2 ^ 64 = omega (arith, k.count, before.few, good_most (of_hour (last_hour ls) ls) (before.good (last_hour ls)), line.rises, line.hour, k.month.1) in
      let rated = ap (λ (x : Member). x.rated.0) k.member in
      let good = (line_of m k.good.0).rated in
      let hour : GoodHour (of_hour l.hour ls ++ l.action ∷ []) = subst GoodHour (of_its_hour ls l) (after.good l.hour) in
      let paid : pay ≡ paid_for m.rated.0 (of_hour l.hour ls ++ l.action ∷ []) =
      let put = kept_more (set s.kept n l.action) refl in
      λ i. record { 0 = (pays (rw rated good) (subst GoodHour (sym put) hour) ∙ (λ j. hour_grains (rated j) (put j))) i } in
      record {
        good = k.good;
        sound = now_sound;
        member = member ∙ k.member;
        month = (month ∙ k.month.0, k.month.1);
        count = omega (arith, count, mod-eq_of_lt low, k.count, many);
        last = last ∙ sym ends;
        filled = filled ∙ (let e : n + 1 ≡ length (of_hour l.hour ls ++ l.action ∷ []) = omega (arith, h.0, more) in e) ∙ ap (λ (xs : List Action). length xs) (sym its);
        kept = ap (λ (x : ℕ). take x r.kept) filled ∙ now ∙ sym its;
        room = ap (λ (xs : List Action). length xs) kept ∙ length-set s.kept n l.action ∙ k.room;
        grains = grains ∙ (λ i. set ((k.grains ∙ pays_table m.rated.0 ls 0 most_hours) i) l.hour (paid i))
            ∙ sym (pays_table m.rated.0 (ls ++ l ∷ []) 0 most_hours ∙ table_more (paid_for m.rated.0) ls l 0 most_hours l.hour (zero-add l.hour));
        actions = actions ∙ (λ i. set ((k.actions ∙ actions_table ls 0 most_hours) i) l.hour ((let e : n + 1 ≡ length (of_hour l.hour ls ++ l.action ∷ []) = omega (arith, h.0, more) in e) i))
            ∙ sym (actions_table (ls ++ l ∷ []) 0 most_hours ∙ table_more (λ xs. length xs) ls l 0 most_hours l.hour (zero-add l.hour));
      }

-- The end of a line

module _ (s : Sheet) (l : HourLine) (r : Sheet) (on : s.fault ≡ None) (f : HourLine) (fair : f ≡ fair_hour_line l) where
  pub with_refused : sheet_takes s f ≡ false → r.fault ≡ Some (AtLine s.count)
      → (m : Member) (hours : ℕ) (ls : List HourLine) → Judged m hours ls s → Judged m hours (ls ++ l ∷ []) r
  with_refused h told m hours ls j =
      let k = j.yes on in
      let bad = fair_bad hours k.month.1 ls l (ap (hour_line_is_sound hours ls) (sym fair) ∙ sym (takes_sound m hours ls s k f) ∙ h) in
      record {
        no = λ fault e. subst (λ (x : HoursFault). Refused m hours (ls ++ l ∷ []) x) (same_fault (AtLine s.count) fault (sym told ∙ e)) (bad_refused m hours ls s k l bad);
        yes = λ e. absurd (apart told e);
      }

  pub with_taken : sheet_takes s f ≡ true
      → ((m : Member) (hours : ℕ) (ls : List HourLine) → s.fault ≡ None → Taken m hours ls s → (r.fault ≡ None) × Taken m hours (ls ++ f ∷ []) r)
      → (m : Member) (hours : ℕ) (ls : List HourLine) → Judged m hours ls s → Judged m hours (ls ++ l ∷ []) r
  with_taken h taken m hours ls j =
      let k = j.yes on in
      let same = fair ∙ fair_same hours k.month.1 ls l (ap (hour_line_is_sound hours ls) (sym fair) ∙ sym (takes_sound m hours ls s k f) ∙ h) in
      let t = taken m hours ls on k in
      record {
        no = λ fault e. absurd (apart e t.0);
        yes = λ e. subst (λ (x : HourLine). Taken m hours (ls ++ x ∷ []) r) same t.1;
      }

-- The end of a line, where blank lines are held back or none

module _ (grid : Grid) (ended : List ℕ) (s : Sheet) where
  no_lines : (held : ℕ) → ended_lines held grid ended ≡ [] → (m : Member) (hours : ℕ) (ls : List HourLine) → Judged m hours ls s → Judged m hours (ls ++ ended_lines held grid ended) s
  no_lines held e m hours ls j = subst (λ (x : List HourLine). Judged m hours x s) (sym (ap (λ (x : List HourLine). ls ++ x) e ∙ append-nil ls)) j

  pub after_heading : head_left grid [] ≡ true → (m : Member) (hours : ℕ) (ls : List HourLine) (held : ℕ) → Judged m hours ls s → Judged m hours (ls ++ ended_lines held grid ended) s
  unfolding ended_lines
  after_heading h m hours ls held j = no_lines held (rw h) m hours ls j

  module _ (h : head_left grid [] ≡ false) where
    pub after_blank : blank_left grid [] ≡ true → (m : Member) (hours : ℕ) (ls : List HourLine) (held : ℕ) → Judged m hours ls s → Judged m hours (ls ++ ended_lines held grid ended) s
    unfolding ended_lines
    after_blank b m hours ls held j = no_lines held (rw (h, b)) m hours ls j

    module _ (b : blank_left grid [] ≡ false) (r : Sheet) where
      pub after_held : ((m : Member) (hours : ℕ) (ls more : List HourLine) → Judged m hours ls s → Judged m hours (ls ++ as_hour_line [] ∷ more) r)
          → (m : Member) (hours : ℕ) (ls : List HourLine) (held : ℕ) → true ≡ ltb 0 held → Judged m hours ls s → Judged m hours (ls ++ ended_lines held grid ended) r
      unfolding ended_lines
      after_held spoils m hours ls zero e j = absurd (holds_or_fails (sym e) (le-ltb 0 0 (omega arith)))
      after_held spoils m hours ls (suc k) e j = rw (h, b) (spoils m hours ls (map as_hour_line (replicate k [] ++ row_left (row_by hour_columns) grid ended [] ∷ [])) j)

      pub after_row : ((m : Member) (hours : ℕ) (ls : List HourLine) → Judged m hours ls s → Judged m hours (ls ++ ended_line grid ended ∷ []) r)
          → (m : Member) (hours : ℕ) (ls : List HourLine) (held : ℕ) → false ≡ ltb 0 held → Judged m hours ls s → Judged m hours (ls ++ ended_lines held grid ended) r
      unfolding ended_lines
      after_row takes m hours ls zero e j = rw (h, b) (takes m hours ls j)
      after_row takes m hours ls (suc k) e j = absurd (holds_or_fails (lt-ltb 0 (suc k) (omega arith)) (sym e))

-- how many are held back then
held_heading : (grid : Grid) (held : ℕ) → head_left grid [] ≡ true → ltb 0 held ≡ ltb 0 (held_after held grid)
unfolding held_after
held_heading grid held h = rw h

held_line_lem : (grid : Grid) (held : ℕ) → head_left grid [] ≡ false → blank_left grid [] ≡ ltb 0 (held_after held grid)
unfolding held_after
held_line_lem grid held h = rw h (go (blank_left grid []))
  where
    go : (t : Bool) → t ≡ ltb 0 (cond t (suc held) 0)
    go true = sym (lt-ltb 0 (suc held) (omega arith))
    go false = sym (le-ltb 0 0 (omega arith))

pub held_is : (grid : Grid) (blank : Bool) (held : ℕ) → blank ≡ ltb 0 held → blank_behind grid blank ≡ ltb 0 (held_after held grid)
held_is grid blank held e = go (head_left grid []) refl
  where
    go : (t : Bool) → head_left grid [] ≡ t → blank_behind grid blank ≡ ltb 0 (held_after held grid)
    go true h = rw h (e ∙ held_heading grid held h)
    go false h = rw h (held_line_lem grid held h)
