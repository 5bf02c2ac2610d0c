-- The first fault of a ramping file is at the line that reading it refuses, and there is none exactly where it is taken. Assumes nothing.
use Rattle.std.proofs.Common.{
  ◌≡◌,
  ℕ,
  suc,
  ◌+◌,
  ◌<◌,
  ◌≤◌,
  Bool,
  true,
  false,
  cond,
  ltb,
  ◌↔◌,
  List,
  [],
  ◌∷◌,
  ◌++◌,
  map,
  length,
  take,
  sym,
  refl,
  ap,
  ◌∙◌,
  append_assoc,
  append-nil,
  arith,
  le-ltb,
  lt-ltb,
}
use native.Mathlib.Decide.{dec_lt}
use Rattle.le.proofs.Tests.{holds_or_fails}
use Rattle.row.specs.Meaning.{most_columns}
use Rattle.grid.specs.Grid.{is_blank, cells_of, body_of}
use Rattle.grid.specs.Told.{told, row_in, rows_by}
use Rattle.grid.specs.Meaning.{row_by}
use Rattle.grid.proofs.Rows.{numbers_rows}
use Rattle.pay.specs.declared.Member.{Member}
use Rattle.pay.specs.Member.{member_is_sound}
use Rattle.ramp.specs.Ramping.{is_ramping}
use Rattle.hours.specs.declared.HourLine.{HourLine}
use Rattle.hours.specs.declared.HoursFault.{HoursFault}
use Rattle.hours.specs.declared.HoursFault.TheVariants.{OfMember, AtLine}
use Rattle.hours.specs.Hours.{hour_columns, most_hours, as_hour_line, hour_lines, hour_line_is_sound, first_bad_line, hours_refused, hours_paid, hours_of_lines, read_hours}
use Rattle.faults.specs.Faults.{first_line}
use Rattle.hour_faults.specs.declared.HourWrong.{HourWrong}
use Rattle.std.specs.Prelude.{Option, Some, None}
use Rattle.hour_faults.specs.declared.HourFound.{HourFound}
use Rattle.hour_faults.specs.declared.Finder.{Finder}
use Rattle.hour_faults.specs.HourFaults.{is_sound, hour_fault, none_found, found_from, first_hour_fault}
use Rattle.hour_faults.specs.Inner.{found_left}
use Rattle.hour_faults.proofs.Exact.{seven, sound_line, line_sound, row_same, row_alike}

-- nothing is wrong where the test says so
sound_is : (w : Option HourWrong) → is_sound w ≡ true → w ≡ None
sound_is None h = refl
sound_is (Some wrong) h = absurd (holds_or_fails h refl)

is_sound_lem : (w : Option HourWrong) → w ≡ None → is_sound w ≡ true
is_sound_lem w e = ap is_sound e

-- NOTHING IS WRONG WITH A LINE exactly where it has seven cells and is sound behind the lines before it.
pub fault_exactly : (hours : ℕ) → hours ≤ most_hours → (before : List HourLine) (row : List ℕ)
    → (hour_fault hours before row ≡ None) ↔ ((length row ≡ hour_columns) × (hour_line_is_sound hours before (as_hour_line row) ≡ true))
fault_exactly hours few before row = (
  λ e. (seven hours before row (is_sound_lem (hour_fault hours before row) e), sound_line hours before row (is_sound_lem (hour_fault hours before row) e)),
  λ p. sound_is (hour_fault hours before row) (line_sound hours before row few p.0 p.1),
)

-- a fault that is told, and its line
some_or_none : {found : HourFound} → Some found ≡ None → ⊥
some_or_none e = cc

abbrev line_of : Option HourFound → ℕ
line_of None = 0
line_of (Some found) = found.line

-- The rows of a file

abbrev lines_by : List (List ℕ) → List HourLine
lines_by rows = map (λ row. as_hour_line (row_by hour_columns row)) rows

lines_are : (text : List ℕ) → hour_lines text ≡ lines_by (rows_by (λ row. row) text)
unfolding hour_lines rows_by row_in
lines_are text = ap (λ (rows : List (List ℕ)). map as_hour_line rows) (sym (numbers_rows hour_columns text (omega arith))) ∙ every (body_of text)
  where
    one : (l : List ℕ) (t : Bool) → as_hour_line (cond t [] (row_by hour_columns (take most_columns (map told (cells_of l))))) ≡ as_hour_line
        (row_by hour_columns (cond t [] (take most_columns (map told
        (cells_of l)))))
    one l true = refl
    one l false = refl

    every : (ls : List (List ℕ)) → map as_hour_line (map (row_in (row_by hour_columns)) ls) ≡ lines_by (map (row_in (λ row. row)) ls)
    every [] = refl
    every (l ∷ ls) = λ i. one l (is_blank l) i ∷ every ls i

module _ (hours : ℕ) (few : hours ≤ most_hours) where
  -- where a line is bad it is found, and where none is none is
  record Finds (line : ℕ) (before : List HourLine) (rows : List (List ℕ)) : Type 0 where
    bad : first_bad_line hours before (lines_by rows) < length (lines_by rows)
        → (found : HourFound) × (found_from hours line before rows ≡ Some found) × (found.line ≡ line + first_bad_line hours before (lines_by rows))
    none : length (lines_by rows) ≤ first_bad_line hours before (lines_by rows) → found_from hours line before rows ≡ none_found

  finds : (rows : List (List ℕ)) (line : ℕ) (before : List HourLine) → Finds line before rows
  unfolding found_from first_bad_line
  finds [] line before = record { bad = λ h. absurd (omega (arith, h)); none = λ h. refl }
  finds (row ∷ rows) line before = go (hour_fault hours before row) refl (finds rows (suc line))
    where
      go : (w : Option HourWrong) → hour_fault hours before row ≡ w → ((b : List HourLine) → Finds (suc line) b rows) → Finds line before (row ∷ rows)
      go None e more =
          let l = as_hour_line (row_by hour_columns row) in
          let good : hour_line_is_sound hours before l ≡ true = sym (row_alike hours few before row) ∙ ap is_sound e in
          let is : l ≡ as_hour_line row = ap as_hour_line (row_same hours few before row (ap is_sound e)) in
          let f = more (before ++ as_hour_line row ∷ []) in
          let swap : first_bad_line hours (before ++ l ∷ []) (lines_by rows) ≡ first_bad_line hours (before ++ as_hour_line row ∷ []) (lines_by rows) =
          ap (λ (x : HourLine). first_bad_line hours (before ++ x ∷ []) (lines_by rows)) is in
          record {
            bad = rw (good, e) (λ h. let k = f.bad (omega (arith, h, swap)) in (k.0, k.1, omega (arith, k.2, swap)));
            none = rw (good, e) (λ h. f.none (omega (arith, h, swap)));
          }
      go (Some wrong) e more =
          let bad : hour_line_is_sound hours before (as_hour_line (row_by hour_columns row)) ≡ false = sym (row_alike hours few before row) ∙ ap is_sound e in
          record { bad = rw (bad, e) (λ h. (record { line = line; wrong = wrong }, refl, omega arith)); none = rw (bad, e) (λ h. absurd (omega (arith, h))) }

  -- A file of a member that may ramp

  module _ (m : Member) (line : member_is_sound m ≡ true) (kind : is_ramping m.kind ≡ true) (text : List ℕ) where
    abbrev rows : List (List ℕ)
    rows = rows_by (λ row. row) text

    abbrev first : ℕ
    first = first_bad_line hours [] (lines_by rows)

    fault_is : (read_hours m hours text).fault ≡ cond (ltb first (length (lines_by rows))) (Some (AtLine first)) None
    unfolding read_hours hours_of_lines hours_refused hours_paid
    fault_is = rw (line, kind, lines_are text) (go (ltb first (length (lines_by rows))))
      where
        go : (t : Bool) → (cond t (hours_refused (AtLine first)) (hours_paid m.rated.0 (lines_by rows))).fault ≡ cond t (Some (AtLine first)) None
        go true = refl
        go false = refl

    -- the place of a fault
    place : Option HoursFault → ℕ
    place None = 0
    place (Some (OfMember number)) = 0
    place (Some (AtLine p)) = suc p

    -- THE FIRST FAULT IS WHERE READING REFUSES: at the row of that line, and only there.
    pub first_refused_lem : (p : ℕ) → ((read_hours m hours text).fault ≡ Some (AtLine p))
        ↔ ((found : HourFound) × (first_hour_fault hours text ≡ Some found) × (found.line ≡ first_line text + p))
    unfolding first_hour_fault place
    first_refused_lem p = go (dec_lt first (length (lines_by rows)))
      where
        f : Finds (first_line text) [] rows
        f = finds rows (first_line text) []

        go : Dec (first < length (lines_by rows)) → ((read_hours m hours text).fault ≡ Some (AtLine p))
            ↔ ((found : HourFound) × (found_from hours (first_line text) [] rows ≡ Some found) × (found.line ≡ first_line text + p))
        go (yes h) =
            let told : (read_hours m hours text).fault ≡ Some (AtLine first) = fault_is ∙ rw (lt-ltb first (length (lines_by rows)) h) in
            let b = f.bad h in (
              λ e. let same : suc first ≡ suc p = ap place (sym told ∙ e) in
                  (b.0, b.1, omega (arith, b.2, same)),
              λ q. let one : b.0.line ≡ q.0.line = ap line_of (sym b.1 ∙ q.1) in let same : first ≡ p = omega (arith, b.2, q.2, one) in told ∙ ap (λ (x : ℕ). Some (AtLine x)) same,
            )
        go (no h) =
            let told : (read_hours m hours text).fault ≡ None = fault_is ∙ rw (le-ltb first (length (lines_by rows)) (omega (arith, h))) in
            let n = f.none (omega (arith, h)) in (
              λ e. let never : 0 ≡ suc p = ap place (sym told ∙ e) in absurd (omega (arith, never)),
              λ q. absurd (some_or_none (sym q.1 ∙ n)),
            )

    -- A FILE WITHOUT A FAULT IS TAKEN, and no other.
    pub none_taken : ((read_hours m hours text).fault ≡ None) ↔ (first_hour_fault hours text ≡ none_found)
    unfolding first_hour_fault place
    none_taken = go (dec_lt first (length (lines_by rows)))
      where
        f : Finds (first_line text) [] rows
        f = finds rows (first_line text) []

        go : Dec (first < length (lines_by rows)) → ((read_hours m hours text).fault ≡ None) ↔ (found_from hours (first_line text) [] rows ≡ none_found)
        go (yes h) =
            let told : (read_hours m hours text).fault ≡ Some (AtLine first) = fault_is ∙ rw (lt-ltb first (length (lines_by rows)) h) in
            let b = f.bad h in (
              λ e. let never : suc first ≡ 0 = ap place (sym told ∙ e) in absurd (omega (arith, never)),
              λ q. absurd (some_or_none (sym b.1 ∙ q)),
            )
        go (no h) =
            let told : (read_hours m hours text).fault ≡ None = fault_is ∙ rw (le-ltb first (length (lines_by rows)) (omega (arith, h))) in
            (λ e. f.none (omega (arith, h)), λ q. told)

-- The stream

-- a finder that was started for a month, and fed part after part of a text, each as its contract has it
pub data Streamed (hours : ℕ) : List ℕ → Finder → Type 0 where
  started : (f : Finder) → ((rest : List ℕ) → found_left f rest ≡ first_hour_fault hours rest) → Streamed hours [] f
  fed : (text bytes : List ℕ) (f r : Finder) → Streamed hours text f → ((rest : List ℕ) → found_left r rest ≡ found_left f (bytes ++ rest)) → Streamed hours (text ++ bytes) r

streamed_left : (hours : ℕ) (text : List ℕ) (f : Finder) → Streamed hours text f → (rest : List ℕ) → found_left f rest ≡ first_hour_fault hours (text ++ rest)
streamed_left hours text f (started _ s) rest = s rest
streamed_left hours text r (fed before bytes f _ k s) rest =
    s rest ∙ streamed_left hours before f k (bytes ++ rest) ∙ ap (first_hour_fault hours) (sym (append_assoc before bytes rest))

-- IN WHATEVER PARTS a file came, what is found is its first fault;
pub stream_finds : (hours : ℕ) (text : List ℕ) (f : Finder) → Streamed hours text f → (r : Option HourFound) → r ≡ found_left f [] → r ≡ first_hour_fault hours text
stream_finds hours text f s r e = e ∙ streamed_left hours text f s [] ∙ ap (first_hour_fault hours) (append-nil text)

-- so two of one file find the same;
pub finish_determined : (hours : ℕ) (text : List ℕ) (f g : Finder) → Streamed hours text f → Streamed hours text g → (r s : Option HourFound) → r ≡ found_left f [] → s ≡ found_left g [] → r ≡ s
finish_determined hours text f g a b r s e h = stream_finds hours text f a r e ∙ sym (stream_finds hours text g b s h)

pub found_determined : (hours : ℕ) (text : List ℕ) (r s : Option HourFound) → r ≡ first_hour_fault hours text → s ≡ first_hour_fault hours text → r ≡ s
found_determined hours text r s e f = e ∙ sym f

-- and once it is settled, no bytes that follow change it.
pub stops_late_enough : (hours : ℕ) (text : List ℕ) (f : Finder) → Streamed hours text f → ((rest : List ℕ) → found_left f rest ≡ found_left f [])
    → (rest : List ℕ) → first_hour_fault hours (text ++ rest) ≡ first_hour_fault hours text
stops_late_enough hours text f s h rest =
    sym (streamed_left hours text f s rest) ∙ h rest ∙ streamed_left hours text f s [] ∙ ap (first_hour_fault hours) (append-nil text)
