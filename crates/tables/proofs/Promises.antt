-- What reading a table promises: which lines are good, that a register is its lines in turn, and that no contract leaves a choice. Assumes nothing.
use mathlib.Core.Path.{◌≡◌, refl, ap, sym, subst, ◌∙◌}
use mathlib.Core.Bool.{Bool, true, false, cond, ◌&&◌, ◌||◌}
use mathlib.Core.List.{List, [], ◌∷◌, ◌++◌, map}
use Prim.Native.Nat.{ℕ, suc, min, ◌+◌, ◌≤◌, ◌<◌}
use native.Mathlib.Decide.{ℕ_discrete}
use native.Mathlib.Omega.{arith}
use lib.Dec.{ltb, leb, eqb}
use lib.ListN.{length, get_or, take, drop, length-append, length-take, length-drop, length-map}
use lib.Seq.{take_all}
use borrow.Author.Tests.{ltb-true, ltb-false, leb-true, le-leb, eq-eqb, ne_eqb}
use Rattle.le.proofs.Tests.{Hold, each, holds_or_fails}
use Rattle.row.specs.Numbers.{parts_of, is_number, numbers, value, numbers_in, ceiling, hold}
use Rattle.row.specs.Meaning.{most_columns}
use Rattle.row.proofs.Texts.{by_parts, and_false}
use Rattle.row.proofs.Held.{capped}
use Rattle.row.specs.Judging.{refused_at, all_taken, first_unsound}
use Rattle.row.proofs.Judging.{sound_number, blank_bad, lowest_unsound, every_sound, after_most}
use Rattle.share.specs.Sharing.{most_number, most_status, most_energy, most_assessment}
use Rattle.units.specs.declared.Fen.{Fen}
use Rattle.share.specs.declared.Line.{Line}
use Rattle.ceiling.specs.declared.Limit.{Limit}
use Rattle.ceiling.specs.Ceiling.{most_limit, limit_is_sound}
use Rattle.register.specs.declared.Entry.{Entry}
use Rattle.register.specs.Register.{entry_line, entry_is_sound, first_bad_entry}
use Rattle.tables.specs.declared.roll.Register.{Register}
use Rattle.grid.specs.Grid.{comma, is_blank, unquoted, cells_of, row_of}
use Rattle.grid.specs.Told.{is_dash, told, row_in}
use Rattle.grid.proofs.Cells.{told_is, told_none}
use Rattle.tables.specs.Register.{register_row, limit_told, as_entry, entries_of, register_entries, read_register}
use Rattle.tables.specs.Series.{Filled, no_output, output_of, series_of, filled_with}
use Rattle.register.proofs.Entries.{bad_le}
use Rattle.tables.proofs.Entries.{bounds, within, sound_is, lawful}

-- Two outcomes that a contract allows are one

-- a text has one register, or one refusal
pub register_determined : (text : List ℕ) (r s : Register) → r ≡ read_register text → s ≡ read_register text → r ≡ s
register_determined text r s e f = e ∙ sym f

-- a lent list is left in one way, with one count
pub series_determined : (before text after other : List ℕ) (n m : ℕ) → ◌≡◌ {A = Filled} (record { count = n; values = after }) (filled_with before (series_of text))
    → ◌≡◌ {A = Filled} (record { count = m; values = other }) (filled_with before (series_of text)) → (n ≡ m) × (after ≡ other)
series_determined before text after other n m e f =
    (ap (λ (r : Filled). r.count) (e ∙ sym f), ap (λ (r : Filled). r.values) (e ∙ sym f))

-- an entry and a compensation have one sharing line
pub line_determined : (e : Entry) (fen : Fen) (l k : Line) → l ≡ entry_line e fen → k ≡ entry_line e fen → l ≡ k
line_determined e fen l k p q = p ∙ sym q

-- a count of outputs is one of the list that was lent
pub series_fits : (before vs after : List ℕ) (n : ℕ) → ◌≡◌ {A = Filled} (record { count = n; values = after }) (filled_with before vs) → n ≤ length after
unfolding filled_with
series_fits before vs after n e =
    let c : n ≡ min (length vs) (length before) = ap (λ (r : Filled). r.count) e in
    let l : length after ≡ length (take (length before) vs ++ drop (length vs) before) = ap (λ (r : Filled). length r.values) e in
    omega (arith, c, l, length-append (take (length before) vs) (drop (length vs) before), length-take (length before) vs, length-drop (length vs) before)

-- Series

-- a line is one decimal number of at most 5,000,000 kW
abbrev pub is_output : List (List ℕ) → Bool
is_output cells = numbers cells && eqb (length cells) 1 && leb (value 0 (get_or cells 0 [])) 5000000

-- THE BAD LINES OF A SERIES are those that scoring refuses with 11: an output is at most 5,000,000 kW just where its line says such a number.
pub series_value : (l : List ℕ) → leb (output_of (row_of 1 l)) 5000000 ≡ is_output (cells_of l)
unfolding row_of numbers_in output_of
series_value l = by_parts 44 (λ cs. leb (output_of (map hold (numbers_in 1 (map unquoted cs)))) 5000000 ≡ is_output (map unquoted cs)) (λ p ps. one (unquoted p) (map unquoted ps)) l
  where
    low : (v : ℕ) → leb (min (hold v) no_output) 5000000 ≡ leb v 5000000
    low v = capped (hold v) no_output 5000000 (omega arith) ∙ capped v ceiling 5000000 (omega arith)

    go : (t : Bool) (v : ℕ) (ns : List ℕ) → leb (output_of (map hold (cond t (v ∷ ns) []))) 5000000 ≡ (t && leb v 5000000)
    go true v ns = low v
    go false v ns = refl

    one : (p : List ℕ) (ps : List (List ℕ)) → leb (output_of (map hold (numbers_in 1 (p ∷ ps)))) 5000000 ≡ is_output (p ∷ ps)
    one p ps = go (numbers (p ∷ ps) && eqb (length (p ∷ ps)) 1) (value 0 p) (map (value 0) ps)

-- Entries

-- a limit is a decimal number, or `-` alone
abbrev pub is_limit : List ℕ → Bool
is_limit p = is_dash p || is_number p

-- a line is six decimal numbers and a limit
abbrev pub is_register_line : List (List ℕ) → Bool
is_register_line cells = eqb (length cells) 7 && numbers (take 6 cells) && is_limit (get_or cells 6 [])

-- a limit and an entry as they are written, however large their numbers
abbrev pub written_limit : List ℕ → Limit
written_limit p = cond (is_dash p) (record { none = true; fen = record { 0 = 0 } }) (record { none = false; fen = record { 0 = value 0 p } })

abbrev pub written_entry : List (List ℕ) → Entry
written_entry cells =
    record {
      member = record { number = value 0 (get_or cells 0 []); kind = value 0 (get_or cells 1 []); rated = record { 0 = value 0 (get_or cells 2 []) } };
      status = value 0 (get_or cells 3 []);
      energy = record { 0 = value 0 (get_or cells 4 []) };
      assessment = record { 0 = value 0 (get_or cells 5 []) };
      limit = written_limit (get_or cells 6 []);
    }

-- the entry that a line is read as
abbrev pub entry_of : List ℕ → Entry
entry_of l = as_entry (row_in register_row l)

-- what a cell says that is within a limit
told_held : (p : List ℕ) → is_number p ≡ true → told p ≡ hold (value 0 p)
told_held p h = rw h

told_as : (p : List ℕ) (most : ℕ) → most < ceiling → leb (told p) most ≡ true → (is_number p ≡ true) × (told p ≡ value 0 p)
told_as p most low h =
    let few = leb-true (told p) most h in
    let is : is_number p ≡ true = sym (told_is p) ∙ le-leb (told p) ceiling (omega arith) in
    let held = told_held p is in
    (is, omega (arith, held))

told_back : (p : List ℕ) (most : ℕ) → most < ceiling → is_number p ≡ true → leb (value 0 p) most ≡ true → told p ≡ value 0 p
told_back p most low is h =
    let few = leb-true (value 0 p) most h in
    let held = told_held p is in
    omega (arith, held)

module _ (p : List ℕ) where
  abbrev limit_by : Bool → ℕ → Limit
  limit_by t n = cond t (record { none = true; fen = record { 0 = 0 } }) (record { none = false; fen = record { 0 = n } })

  limit_by_lem : limit_told (told p) ≡ limit_by (is_dash p) (told p)
  unfolding limit_told
  limit_by_lem = ap (λ (t : Bool). limit_by t (told p)) (told_none p)

  limit_as : limit_is_sound (limit_told (told p)) ≡ true → (is_limit p ≡ true) × (limit_told (told p) ≡ written_limit p)
  unfolding limit_is_sound
  limit_as h =
      let r = go (is_dash p) (sym (ap limit_is_sound limit_by_lem) ∙ h) in
      (r.0, limit_by_lem ∙ r.1)
    where
      go : (t : Bool) → limit_is_sound (limit_by t (told p)) ≡ true → ((t || is_number p) ≡ true) × (limit_by t (told p) ≡ limit_by t (value 0 p))
      go true k = (refl, refl)
      go false k = let r = told_as p most_limit (omega arith) k in (r.0, ap (limit_by false) r.1)

  limit_back : is_limit p ≡ true → limit_is_sound (written_limit p) ≡ true → limit_told (told p) ≡ written_limit p
  unfolding limit_is_sound
  limit_back is h = limit_by_lem ∙ go (is_dash p) is h
    where
      go : (t : Bool) → (t || is_number p) ≡ true → limit_is_sound (limit_by t (value 0 p)) ≡ true → limit_by t (told p) ≡ limit_by t (value 0 p)
      go true i k = refl
      go false i k = ap (limit_by false) (told_back p most_limit (omega arith) i k)

-- seven cells
module _ (before : ℕ) (a b c d e f p : List ℕ) where
  abbrev seven : List (List ℕ)
  seven = a ∷ b ∷ c ∷ d ∷ e ∷ f ∷ p ∷ []

  abbrev read : Entry
  read = as_entry (map told seven)

  abbrev Alike : Type 0
  Alike = (told a ≡ value 0 a) × (told b ≡ value 0 b) × (told c ≡ value 0 c) × (told d ≡ value 0 d) × (told e ≡ value 0 e) × (told f ≡ value 0 f) × (limit_told (told p) ≡ written_limit p)

  as_written : Alike → read ≡ written_entry seven
  unfolding as_entry
  as_written h =
      λ i. record {
        member = record { number = h.0 i; kind = h.1 i; rated = record { 0 = h.2 i } };
        status = h.3 i;
        energy = record { 0 = h.4 i };
        assessment = record { 0 = h.5 i };
        limit = h.6 i;
      }

  limits : (n : Entry) → entry_is_sound before n ≡ true → Hold (leb 1 n.member.number ∷ bounds n)
  limits n h = each (leb 1 n.member.number) (bounds n) (each (within n) (ltb before n.member.number ∷ []) (sym (sound_is before n) ∙ h)).0

  sound_as : entry_is_sound before read ≡ true → (is_register_line seven ≡ true) × (read ≡ written_entry seven)
  unfolding as_entry
  sound_as h =
      let q = limits read h in
      let ra = told_as a 64 (omega arith) q.1.0 in
      let rb = told_as b 8 (omega arith) q.1.1.1.0 in
      let rc = told_as c 4000000 (omega arith) q.1.1.1.1.1.0 in
      let rd = told_as d most_status (omega arith) q.1.1.1.1.1.1.0 in
      let re = told_as e most_energy (omega arith) q.1.1.1.1.1.1.1.0 in
      let rf = told_as f most_assessment (omega arith) q.1.1.1.1.1.1.1.1.0 in
      let rp = limit_as p q.1.1.1.1.1.1.1.1.1.0 in
      (rw (ra.0, rb.0, rc.0, rd.0, re.0, rf.0) rp.0, as_written (ra.1, rb.1, rc.1, rd.1, re.1, rf.1, rp.1))

  sound_back : is_register_line seven ≡ true → entry_is_sound before (written_entry seven) ≡ true → read ≡ written_entry seven
  sound_back line h =
      let q = limits (written_entry seven) h in
      let l = each (numbers (take 6 seven)) (is_limit p ∷ []) line in
      let na = each (is_number a) (numbers (b ∷ c ∷ d ∷ e ∷ f ∷ []) ∷ []) l.0 in
      let nb = each (is_number b) (numbers (c ∷ d ∷ e ∷ f ∷ []) ∷ []) na.1.0 in
      let nc = each (is_number c) (numbers (d ∷ e ∷ f ∷ []) ∷ []) nb.1.0 in
      let nd = each (is_number d) (numbers (e ∷ f ∷ []) ∷ []) nc.1.0 in
      let ne = each (is_number e) (numbers (f ∷ []) ∷ []) nd.1.0 in
      let nf = each (is_number f) (true ∷ []) ne.1.0 in
      as_written (
        told_back a 64 (omega arith) na.0 q.1.0,
        told_back b 8 (omega arith) nb.0 q.1.1.1.0,
        told_back c 4000000 (omega arith) nc.0 q.1.1.1.1.1.0,
        told_back d most_status (omega arith) nd.0 q.1.1.1.1.1.1.0,
        told_back e most_energy (omega arith) ne.0 q.1.1.1.1.1.1.1.0,
        told_back f most_assessment (omega arith) nf.0 q.1.1.1.1.1.1.1.1.0,
        limit_back p l.1.0 q.1.1.1.1.1.1.1.1.1.0,
      )

-- cells of a line, however many
abbrev Read : ℕ → List (List ℕ) → Entry → Type 0
Read before cells r =
    (entry_is_sound before r ≡ true → (is_register_line cells ≡ true) × (r ≡ written_entry cells))
    × (is_register_line cells ≡ true → entry_is_sound before (written_entry cells) ≡ true → r ≡ written_entry cells)

seven_read : (before : ℕ) (cells : List (List ℕ)) → length cells ≡ 7 → Read before cells (as_entry (map told cells))
seven_read before (a ∷ b ∷ c ∷ d ∷ e ∷ f ∷ p ∷ []) h = (sound_as before a b c d e f p, sound_back before a b c d e f p)
seven_read before [] h = absurd (omega arith)
seven_read before (a ∷ []) h = absurd (omega arith)
seven_read before (a ∷ b ∷ []) h = absurd (omega arith)
seven_read before (a ∷ b ∷ c ∷ []) h = absurd (omega arith)
seven_read before (a ∷ b ∷ c ∷ d ∷ []) h = absurd (omega arith)
seven_read before (a ∷ b ∷ c ∷ d ∷ e ∷ []) h = absurd (omega arith)
seven_read before (a ∷ b ∷ c ∷ d ∷ e ∷ f ∷ []) h = absurd (omega arith)
seven_read before (a ∷ b ∷ c ∷ d ∷ e ∷ f ∷ p ∷ x ∷ cells) h = absurd (omega arith)

none_sound : (before : ℕ) → entry_is_sound before (as_entry []) ≡ false
unfolding as_entry limit_told
none_sound before = blank_bad register_entries lawful before

none_read : (before : ℕ) (cells : List (List ℕ)) → is_register_line cells ≡ false → Read before cells (as_entry [])
none_read before cells h = ((λ k. absurd (holds_or_fails k (none_sound before))), (λ k s. absurd (holds_or_fails k h)))

cells_read : (before : ℕ) (cells : List (List ℕ)) → Read before cells (as_entry (register_row (take most_columns (map told cells))))
unfolding register_row
cells_read before cells = go (ℕ_discrete (length cells) 7)
  where
    go : Dec (length cells ≡ 7) → Read before cells (as_entry (register_row (take most_columns (map told cells))))
    go (yes same) =
        let whole = take_all most_columns (map told cells) (omega (arith, length-map cells told)) in
        let row : register_row (take most_columns (map told cells)) ≡ map told cells = ap register_row whole ∙ rw (eq-eqb (length (map told cells)) 7 (length-map cells told ∙ same)) in
        subst (λ (ns : List ℕ). Read before cells (as_entry ns)) (sym row) (seven_read before cells same)
    go (no other) =
        let n = length (take most_columns (map told cells)) in
        let apart : n ≡ 7 → ⊥ = λ e. other (omega (arith, length-take most_columns (map told cells), length-map cells told)) in
        let row : register_row (take most_columns (map told cells)) ≡ [] = rw (ne_eqb n 7 apart) in
        subst (λ (ns : List ℕ). Read before cells (as_entry ns)) (sym row) (none_read before cells (rw (ne_eqb (length cells) 7 other)))

blank_first : (cells : List (List ℕ)) → is_register_line ([] ∷ cells) ≡ false
blank_first cells = rw (and_false (eqb (length ([] ∷ cells)) 7))

blank_line_lem : (l : List ℕ) → is_blank l ≡ true → is_register_line (cells_of l) ≡ false
blank_line_lem [] h = refl
blank_line_lem (b ∷ l) h = rw (each (eqb b comma) (is_blank l ∷ []) h).0 (blank_first (map unquoted (parts_of comma l)))

line_read : (before : ℕ) (l : List ℕ) → Read before (cells_of l) (entry_of l)
unfolding row_in
line_read before l = go (is_blank l) refl
  where
    go : (t : Bool) → is_blank l ≡ t → Read before (cells_of l) (as_entry (cond t [] (register_row (take most_columns (map told (cells_of l))))))
    go true h = none_read before (cells_of l) (blank_line_lem l h)
    go false h = cells_read before (cells_of l)

-- A LINE IS SOUND just where it is six decimal numbers and a limit, and the entry of these as they stand is sound: holding a number changes no judgement,
pub entry_sound : (before : ℕ) (l : List ℕ) → entry_is_sound before (entry_of l) ≡ (is_register_line (cells_of l) && entry_is_sound before (written_entry (cells_of l)))
entry_sound before l =
    let r = line_read before l in
    both (entry_is_sound before (entry_of l)) (is_register_line (cells_of l)) (entry_is_sound before (written_entry (cells_of l)))
    (λ h. let s = r.0 h in (s.0, sym (ap (entry_is_sound before) s.1) ∙ h)) (λ k h. ap (entry_is_sound before) (r.1 k h) ∙ h)
  where
    both : (x y z : Bool) → (x ≡ true → (y ≡ true) × (z ≡ true)) → (y ≡ true → z ≡ true → x ≡ true) → x ≡ (y && z)
    both true y z to from = let h = to refl in sym (rw (h.0, h.1))
    both false true true to from = from refl refl
    both false true false to from = refl
    both false false z to from = refl

-- and a sound line's entry has its numbers and its limit as they stand.
pub entry_as_written : (before : ℕ) (l : List ℕ) → entry_is_sound before (entry_of l) ≡ true → entry_of l ≡ written_entry (cells_of l)
entry_as_written before l h = ((line_read before l).0 h).1

-- A line that is not six numbers and a limit is never sound.
pub bad_line_lem : (before : ℕ) (l : List ℕ) → is_register_line (cells_of l) ≡ false → entry_is_sound before (entry_of l) ≡ false
bad_line_lem before l h = entry_sound before l ∙ rw h

-- Registers

-- The lowest line that is not sound is refused, with 10.
pub lowest_bad : (text : List ℕ) → first_unsound register_entries 0 (entries_of text) < length (entries_of text)
    → read_register text ≡ refused_at register_entries (first_unsound register_entries 0 (entries_of text))
unfolding read_register
lowest_bad text = lowest_unsound register_entries lawful (entries_of text)

-- Where every line is sound, all are taken.
pub all_taken_lem : (text : List ℕ) → length (entries_of text) ≤ first_unsound register_entries 0 (entries_of text) → read_register text ≡ all_taken register_entries (entries_of text)
unfolding read_register
all_taken_lem text = every_sound register_entries lawful (entries_of text)

-- Of more than 64 lines the 65th is refused, or an earlier one: after 64 sound lines anything more is 10 at 64.
pub after_64 : (text : List ℕ) → 64 < length (entries_of text)
    → (read_register text ≡ refused_at register_entries (first_unsound register_entries 0 (take 64 (entries_of text)))) × (first_unsound register_entries 0 (take 64 (entries_of text)) ≤ 64)
unfolding read_register
after_64 text = after_most register_entries (entries_of text)

-- numbers rise strictly from above a number on
abbrev pub Rising : ℕ → List Entry → Type 0
Rising before [] = Unit {0}
Rising before (e ∷ es) = (before < e.member.number) × Rising e.member.number es

sound_rising : (before : ℕ) (es : List Entry) → before ≤ most_number → length es ≤ first_unsound register_entries before es → (before + length es ≤ most_number) × Rising before es
sound_rising before [] h k = (omega arith, tt)
sound_rising before (e ∷ es) h k = go (entry_is_sound before e) refl k (sound_rising e.member.number es)
  where
    go : (t : Bool) → entry_is_sound before e ≡ t → suc (length es) ≤ cond t (suc (first_unsound register_entries e.member.number es)) 0
        → (e.member.number ≤ most_number → length es ≤ first_unsound register_entries e.member.number es → (e.member.number + length es ≤ most_number) × Rising e.member.number es)
        → (before + suc (length es) ≤ most_number) × Rising before (e ∷ es)
    go false s k rec = absurd (omega arith)
    go true s k rec =
        let n = sound_number register_entries lawful before e s in
        let r = rec n.1 (omega arith) in
        (omega (arith, n.0, r.0), (n.0, r.1))

-- A REGISTER THAT IS ACCEPTED is that of all its lines, at most 64, and their numbers rise.
pub register_at_most_64 : (text : List ℕ) → (read_register text).number ≡ 0
    → (read_register text ≡ all_taken register_entries (entries_of text)) × (length (entries_of text) ≤ 64) × Rising 0 (entries_of text)
register_at_most_64 text h = go (ltb (first_unsound register_entries 0 (entries_of text)) (length (entries_of text))) refl
  where
    go : (t : Bool) → ltb (first_unsound register_entries 0 (entries_of text)) (length (entries_of text)) ≡ t
        → (read_register text ≡ all_taken register_entries (entries_of text)) × (length (entries_of text) ≤ 64) × Rising 0 (entries_of text)
    go true e =
        let ten : (read_register text).number ≡ 10 = ap (λ (r : Register). r.number) (lowest_bad text (ltb-true _ _ e)) in
        absurd (omega arith)
    go false e =
        let all = ltb-false (first_unsound register_entries 0 (entries_of text)) (length (entries_of text)) e in
        let s = sound_rising 0 (entries_of text) (omega arith) all in
        (all_taken_lem text all, omega (arith, s.0), s.1)

first_bad_lem : (before : ℕ) (es : List Entry) → first_unsound register_entries before es ≡ first_bad_entry before es
first_bad_lem before [] = refl
first_bad_lem before (e ∷ es) = ap (λ (n : ℕ). cond (entry_is_sound before e) (suc n) 0) (first_bad_lem e.member.number es)

-- A REGISTER'S TEXT IS JUDGED AS THE MONTH JUDGES ENTRIES: the line that is refused is the first bad entry, and a text that is accepted has none.
pub judged_as_entries : (text : List ℕ) → first_unsound register_entries 0 (entries_of text) ≡ first_bad_entry 0 (entries_of text)
judged_as_entries text = first_bad_lem 0 (entries_of text)

pub accepted_none_bad : (text : List ℕ) → (read_register text).number ≡ 0 → first_bad_entry 0 (entries_of text) ≡ length (entries_of text)
accepted_none_bad text h = go (ltb (first_bad_entry 0 (entries_of text)) (length (entries_of text))) refl
  where
    go : (t : Bool) → ltb (first_bad_entry 0 (entries_of text)) (length (entries_of text)) ≡ t → first_bad_entry 0 (entries_of text) ≡ length (entries_of text)
    go true e =
        let ten : (read_register text).number ≡ 10 =
        ap (λ (r : Register). r.number) (lowest_bad text (omega (arith, ltb-true (first_bad_entry 0 (entries_of text)) (length (entries_of text)) e, judged_as_entries text))) in
        absurd (omega arith)
    go false e = omega (arith, ltb-false (first_bad_entry 0 (entries_of text)) (length (entries_of text)) e, bad_le 0 (entries_of text))
