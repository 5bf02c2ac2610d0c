-- What the end of a line does to the faults that a walk has still to tell. Assumes nothing.
use Rattle.std.proofs.Common.{◌≡◌, ℕ, suc, ◌+◌, ◌-◌, ◌%◌, ◌^◌, ◌<◌, ◌≤◌, Bool, true, false, List, [], ◌∷◌, ◌++◌, length, drop, replicate, sym, refl, ap, ◌∙◌, mod-eq_of_lt, arith, drop_of_length-le}
use native.Mathlib.Decide.{dec_lt}
use Rattle.le.proofs.Tests.{holds_or_fails}
use Rattle.row.proofs.Left.{next_byte}
use Rattle.grid.specs.declared.Grid.{Grid}
use Rattle.grid.specs.declared.Step.{Step}
use Rattle.grid.specs.Meaning.{head_left, blank_left, row_left, blanks_then, line_then, lines_by, rows_left, rows_after, StepFrom, Starts, Next}
use Rattle.grid.proofs.Rows.{blanks_none, feed, ends}
use Rattle.faults.specs.declared.Table.{Table}
use Rattle.std.specs.Prelude.{Option, Some, None, is_some, is_none}
use Rattle.faults.specs.declared.Wrong.{Wrong}
use Rattle.faults.specs.declared.Wrong.TheVariants.{Blank}
use Rattle.faults.specs.declared.Found.{Found}
use Rattle.faults.specs.declared.Walk.{Walk}
use Rattle.faults.specs.declared.Faulted.{Faulted}
use Rattle.faults.specs.Faults.{line_fault, number_of, faults_from, first_line, table_faults}
use Rattle.faults.specs.Inner.{first_of, as_told, most_size, Walks, AtEnd, ToEnd, Ended, Passes, IsLine, IsHeld}
use Rattle.faults.proofs.Head.{first_small}

-- The rows at the end of a line

record EndRows (text : List ℕ) (walk : Walk) : Type 0 where
  rows : List (List ℕ)
  last : length text ≤ walk.at → rows ≡ []
  here : (k : ℕ) → rows_left as_told k walk.grid walk.ended (drop walk.at text)
      ≡ line_then k (head_left walk.grid []) (blank_left walk.grid []) (row_left as_told walk.grid walk.ended []) rows
  behind : (n : Grid) → Next walk.grid n → (k : ℕ) → rows_left as_told k n walk.ended (drop (walk.at + 1) text) ≡ blanks_then k rows

none_after : (k : ℕ) (grid : Grid) → blanks_then k (rows_after as_told grid []) ≡ blanks_then k []
unfolding rows_after lines_by
none_after k grid = refl

end_rows : (text : List ℕ) (walk : Walk) → AtEnd text walk → EndRows text walk
end_rows text walk end = go (dec_lt walk.at (length text))
  where
    go : Dec (walk.at < length text) → EndRows text walk
    go (yes h) =
        let rest = drop (walk.at + 1) text in
        let byte : drop walk.at text ≡ 10 ∷ rest = next_byte text walk.at h ∙ ap (λ (b : ℕ). b ∷ rest) (end h) in
        record {
          rows = rows_after as_told walk.grid rest;
          last = λ l. absurd (omega arith);
          here = λ k. ap (rows_left as_told k walk.grid walk.ended) byte ∙ feed as_told k walk.grid walk.ended rest;
          behind = λ n next k. next.rows as_told k walk.ended rest;
        }
    go (no h) =
        record {
          rows = [];
          last = λ l. refl;
          here = λ k. ap (rows_left as_told k walk.grid walk.ended) (drop_of_length-le text {i = walk.at} (omega arith)) ∙ ends as_told k walk.grid walk.ended;
          behind = λ n next k. ap (rows_left as_told k n walk.ended) (drop_of_length-le text {i = walk.at + 1} (omega arith)) ∙ next.rows as_told k walk.ended [] ∙ none_after k
              walk.grid;
        }

-- Faults of rows

cons_not_nil : {f : Found} {fs : List Found} → f ∷ fs ≡ [] → ⊥
cons_not_nil e = let z : ◌≡◌ {A = ℕ} 0 1 = cc in omega arith

blank_told : (table : Table) (line before : ℕ) (rows : List (List ℕ)) → faults_from table line before ([] ∷ rows) ≡ record { line = line; wrong = Blank } ∷ faults_from table (suc line) 0 rows
unfolding faults_from line_fault number_of
blank_told table line before rows = refl

row_sound : (table : Table) (line before : ℕ) (row : List ℕ) (rows : List (List ℕ)) → line_fault table before row ≡ None
    → faults_from table line before (row ∷ rows) ≡ faults_from table (suc line) (number_of row) rows
unfolding faults_from
row_sound table line before row rows h = rw h

row_bad : (table : Table) (line before : ℕ) (row : List ℕ) (rows : List (List ℕ)) (wrong : Wrong) → line_fault table before row ≡ Some wrong
    → faults_from table line before (row ∷ rows) ≡ record { line = line; wrong = wrong } ∷ faults_from table (suc line) (number_of row) rows
unfolding faults_from
row_bad table line before row rows wrong h = rw h

no_rows : (table : Table) (line before k : ℕ) → faults_from table line before (blanks_then k []) ≡ []
unfolding faults_from blanks_then
no_rows table line before k = refl

first_is : (f : Found) (fs left : List Found) → f ∷ fs ≡ left → (Some f ≡ first_of left) × (fs ≡ drop 1 left)
first_is f fs left e = (ap (λ (x : List Found). first_of x) e, ap (λ (x : List Found). drop 1 x) e)

-- A line that is passed

module _ (text : List ℕ) (walk : Walk) (end : AtEnd text walk) where
  abbrev E : EndRows text walk
  E = end_rows text walk end

  says_here : (left : List Found) → Walks text walk left → faults_from walk.table walk.line walk.before
      (line_then walk.blanks (head_left walk.grid []) (blank_left walk.grid []) (row_left as_told walk.grid walk.ended []) E.rows) ≡ left
  says_here left w = ap (faults_from walk.table walk.line walk.before) (sym (E.here walk.blanks)) ∙ w.says

  module _ (r : Faulted) (line before blanks : ℕ) (p : Passes walk line before blanks r) (left : List Found) (small : length text < most_size) (at : walk.at ≤ length text)
      (few : line + blanks ≤ walk.at + 3) (room : length walk.ended ≡ 8) (says : faults_from walk.table line before (blanks_then blanks E.rows) ≡ left) where
    passed : Walks text r.walk left
    passed =
        let on : r.walk.at ≡ walk.at + 1 = p.at ∙ mod-eq_of_lt (omega arith) in
        let n = p.numbers in
        record {
          small = small;
          within = omega arith;
          past = λ h. sym (ap (λ (rows : List (List ℕ)). faults_from walk.table line before (blanks_then blanks rows)) (sym (E.last (omega arith))) ∙ says) ∙ no_rows
              walk.table line before blanks;
          few = omega arith;
          room = ap length p.ended ∙ room;
          says = (λ i. faults_from (p.table i) (n.0 i) (n.1 i) (rows_left as_told (n.2 i) r.walk.grid (p.ended i) (drop (on i) text)))
              ∙ ap (faults_from walk.table line before) (E.behind r.walk.grid p.next blanks) ∙ says;
        }

  sound_found : (r : Faulted) → r.found ≡ None → is_none r.found ≡ true
  sound_found r e = ap (λ (f : Option Found). is_none f) e

  -- where rows are left as they are behind a line, nothing is told
  quiet : (r : Faulted) (line before blanks : ℕ) → Passes walk line before blanks r
      → ((left : List Found) → Walks text walk left → (line + blanks ≤ walk.at + 3) × (faults_from walk.table line before (blanks_then blanks E.rows) ≡ left)) → Ended text walk r
  quiet r line before blanks p h =
      record {
        none = λ s. p.found;
        on = λ s left w at. passed r line before blanks p left w.small at (h left w).0 w.room (h left w).1;
        done = λ s left w late. sym (ap (λ (rows : List (List ℕ)). faults_from walk.table line before (blanks_then blanks rows)) (sym (E.last late)) ∙ (h left w).1) ∙ no_rows
            walk.table line before blanks;
        bad = λ s left w. absurd (holds_or_fails (sound_found r p.found) s);
      }

  pub by_heading : head_left walk.grid [] ≡ true → (r : Faulted) → Passes walk walk.line walk.before walk.blanks r → Ended text walk r
  unfolding line_then
  by_heading h r p = quiet r walk.line walk.before walk.blanks p (λ left w. (omega (arith, w.few), rw h at (says_here left w)))

  pub by_blank : head_left walk.grid [] ≡ false → blank_left walk.grid [] ≡ true → (r : Faulted) (blanks : ℕ) → blanks ≡ (walk.blanks + 1) % 2 ^ 64
      → Passes walk walk.line walk.before blanks r → Ended text walk r
  unfolding line_then
  by_blank h b r blanks e p =
      quiet r walk.line walk.before blanks p
      (λ left w.
      let more : blanks ≡ suc walk.blanks = e ∙ mod-eq_of_lt (omega (arith, w.few, w.within, w.small)) ∙ omega arith in
      let here : faults_from walk.table walk.line walk.before (blanks_then (suc walk.blanks) E.rows) ≡ left = rw (h, b) at (says_here left w) in
      (omega (arith, w.few, more), ap (λ (k : ℕ). faults_from walk.table walk.line walk.before (blanks_then k E.rows)) more ∙ here))

  -- A blank line that was held back

  abbrev held_walk : ℕ → ℕ → Walk
  held_walk line blanks = record { table = walk.table; at = walk.at; grid = walk.grid; ended = walk.ended; line = line; before = 0; blanks = blanks }

  pub by_held : IsHeld walk → (line blanks : ℕ) → line ≡ (walk.line + 1) % 2 ^ 64 → blanks ≡ walk.blanks - 1
      → Ended text walk (record { found = Some (record { line = walk.line; wrong = Blank }); walk = held_walk line blanks })
  unfolding line_then
  by_held h line blanks e f =
      record {
        none = λ s. absurd (holds_or_fails s refl);
        on = λ s left w at. absurd (holds_or_fails s refl);
        done = λ s left w late. absurd (holds_or_fails s refl);
        bad = λ s left w.
            let one : suc blanks ≡ walk.blanks = omega (arith, f, h.some) in
            let next : line ≡ suc walk.line = e ∙ mod-eq_of_lt (omega (arith, w.few, w.within, w.small)) ∙ omega arith in
            let rows = replicate blanks [] ++ row_left as_told walk.grid walk.ended [] ∷ E.rows in
            let here : faults_from walk.table walk.line walk.before (replicate walk.blanks [] ++ row_left as_told walk.grid walk.ended [] ∷ E.rows) ≡ left =
            rw (h.head, h.blank) at (says_here left w) in
            let split : faults_from walk.table walk.line walk.before ([] ∷ rows) ≡ left =
            ap (λ (k : ℕ). faults_from walk.table walk.line walk.before (replicate k [] ++ row_left as_told walk.grid walk.ended [] ∷ E.rows)) one ∙ here in
            let told = first_is (record { line = walk.line; wrong = Blank }) (faults_from walk.table (suc walk.line) 0 rows) left
            (sym (blank_told walk.table walk.line walk.before rows) ∙ split) in
            let left_here : rows_left as_told blanks walk.grid walk.ended (drop walk.at text) ≡ rows = E.here blanks ∙ rw (h.head, h.blank) in (
              told.0,
              record {
                small = w.small;
                within = w.within;
                past = λ p. ap (λ (x : List Found). drop 1 x) (w.past p);
                few = omega (arith, w.few, one, next);
                room = w.room;
                says = (λ i. faults_from walk.table (next i) 0 (left_here i)) ∙ told.1;
              },
            );
      }

  -- A line

  module _
      (is : IsLine walk) (line n : ℕ) (e : line ≡ (walk.line + 1) % 2 ^ 64) (next : Faulted)
      (p : Passes walk line n 0 next) (n_is : n ≡ number_of (row_left as_told walk.grid walk.ended []))
    where
      abbrev row : List ℕ
      row = row_left as_told walk.grid walk.ended []

      row_here : (left : List Found) → Walks text walk left → faults_from walk.table walk.line walk.before (row ∷ E.rows) ≡ left
      unfolding line_then
      row_here left w =
          let here : faults_from walk.table walk.line walk.before (replicate walk.blanks [] ++ row ∷ E.rows) ≡ left = rw (is.head, is.blank) at (says_here left w) in
          ap (λ (k : ℕ). faults_from walk.table walk.line walk.before (replicate k [] ++ row ∷ E.rows)) (sym is.none) ∙ here

      line_is : (left : List Found) → Walks text walk left → line ≡ suc walk.line
      line_is left w = e ∙ mod-eq_of_lt (omega (arith, w.few, w.within, w.small)) ∙ omega arith

      behind_is : (left : List Found) → Walks text walk left → faults_from walk.table line n (blanks_then 0 E.rows) ≡ faults_from walk.table (suc walk.line) (number_of row) E.rows
      behind_is left w = λ i. faults_from walk.table (line_is left w i) (n_is i) (blanks_none E.rows i)

      pub by_sound : None ≡ line_fault walk.table walk.before row → Ended text walk next
      by_sound s =
          quiet next line n 0 p
          (λ left w. (
            omega (arith, w.few, line_is left w),
            behind_is left w ∙ sym (row_sound walk.table walk.line walk.before row E.rows (sym s)) ∙ row_here left w,
          ))

      pub by_bad : (wrong : Wrong) → Some wrong ≡ line_fault walk.table walk.before row → Ended text walk (record { found = Some (record { line = walk.line; wrong = wrong }); walk = next.walk })
      by_bad wrong s =
          record {
            none = λ t. absurd (holds_or_fails t refl);
            on = λ t left w at. absurd (holds_or_fails t refl);
            done = λ t left w late. absurd (holds_or_fails t refl);
            bad = λ t left w.
                let all : record { line = walk.line; wrong = wrong } ∷ faults_from walk.table (suc walk.line) (number_of row) E.rows ≡ left =
                sym (row_bad walk.table walk.line walk.before row E.rows wrong (sym s)) ∙ row_here left w in
                let told = first_is (record { line = walk.line; wrong = wrong }) (faults_from walk.table (suc walk.line) (number_of row) E.rows) left all in
                let at : walk.at ≤ length text = within left w all in
                (told.0, passed next line n 0 p (drop 1 left) w.small at (omega (arith, w.few, line_is left w)) w.room (behind_is left w ∙ told.1));
          }
        where
          within : (left : List Found) → Walks text walk left → record { line = walk.line; wrong = wrong } ∷ faults_from walk.table (suc walk.line) (number_of row)
              E.rows ≡ left → walk.at ≤ length text
          within left w all = go (dec_lt (length text) walk.at)
            where
              go : Dec (length text < walk.at) → walk.at ≤ length text
              go (no k) = omega arith
              go (yes k) = absurd (cons_not_nil (all ∙ w.past k))

-- The walk before any byte, and over some bytes of its line

pub starts_walk : (table : Table) (text : List ℕ) (grid : Grid) (ended : List ℕ) (line : ℕ) → Starts grid → line ≡ first_line text → length ended ≡ 8 → length text < most_size
    → Walks text (record { table = table; at = 0; grid = grid; ended = ended; line = line; before = 0; blanks = 0 }) (table_faults table text)
unfolding table_faults
starts_walk table text grid ended line s e room small =
    record {
      small = small;
      within = omega arith;
      past = λ h. absurd (omega arith);
      few = omega (arith, e, first_small text);
      room = room;
      says = λ i. faults_from table (e i) 0 (s.rows as_told ended text i);
    }

-- the same walk behind a step of its line
abbrev pub stepped : Walk → Step → List ℕ → Walk
stepped walk r after = record { table = walk.table; at = r.end; grid = r.grid; ended = after; line = walk.line; before = walk.before; blanks = walk.blanks }

pub steps_walk : (text : List ℕ) (walk : Walk) (r : Step) (after : List ℕ) → StepFrom text walk.at walk.grid walk.ended r after → length after ≡ 8
    → (left : List Found) → Walks text walk left → Walks text (stepped walk r after) left
steps_walk text walk r after s room left w =
    record {
      small = w.small;
      within = omega (arith, s.within);
      past = λ h. absurd (omega (arith, s.within));
      few = omega (arith, w.few, s.on);
      room = room;
      says = ap (faults_from walk.table walk.line walk.before) (s.rows as_told walk.blanks (drop r.end text) ∙ ap (rows_left as_told walk.blanks walk.grid walk.ended) (sym s.stands))
          ∙ w.says;
    }

-- The next fault

module _ (text : List ℕ) (self walk end : Walk) (from : (left : List Found) → Walks text self left → Walks text walk left) (to : ToEnd text walk end) where
  on : (left : List Found) → Walks text self left → Walks text end left
  on left w = to.same left (from left w)

  module _ (r : Faulted) (told : Ended text end r) where
    pub found_first : is_none r.found ≡ false → (left : List Found) → Walks text self left → r.found ≡ first_of left
    found_first s left w = (told.bad s left (on left w)).0

    pub found_rest : is_none r.found ≡ false → (left : List Found) → Walks text self left → Walks text r.walk (drop 1 left)
    found_rest s left w = (told.bad s left (on left w)).1

    pub goes_on_lem : is_none r.found ≡ true → end.at ≤ length text → (left : List Found) → Walks text self left → Walks text r.walk left
    goes_on_lem s at left w = told.on s left (on left w) at

pub some_found : (found : Option Found) → is_some found ≡ true → is_none found ≡ false
some_found None h = sym h
some_found (Some f) h = refl

-- the last line
pub last_first : (text : List ℕ) (self walk : Walk) → ((left : List Found) → Walks text self left → Walks text walk left) → length text ≤ walk.at → (r : Faulted) → Ended text walk r
    → (left : List Found) → Walks text self left → r.found ≡ first_of left
last_first text self walk from late r told left w = go (is_none r.found) refl
  where
    go : (t : Bool) → is_none r.found ≡ t → r.found ≡ first_of left
    go true s = told.none s ∙ ap (λ (x : List Found). first_of x) (sym (told.done s left (from left w) late))
    go false s = (told.bad s left (from left w)).0

pub last_rest : (text : List ℕ) (self walk : Walk) → ((left : List Found) → Walks text self left → Walks text walk left) → (r : Faulted) → Ended text walk r
    → (left : List Found) → Walks text self left → is_none r.found ≡ false → Walks text r.walk (drop 1 left)
last_rest text self walk from r told left w s = (told.bad s left (from left w)).1

-- A walk that has the same faults still to tell tells the same one next.
pub fault_determined : (left : List Found) (r s : Faulted) → r.found ≡ first_of left → s.found ≡ first_of left → r.found ≡ s.found
fault_determined left r s e f = e ∙ sym f
