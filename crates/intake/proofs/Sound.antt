-- A statement within the limits is sound for the year but for its sum. Assumes nothing.
use mathlib.Core.Path.{◌≡◌, refl, sym, ap, ◌∙◌}
use mathlib.Core.Bool.{Bool, true, false, cond, ◌&&◌}
use mathlib.Core.List.{List, [], ◌∷◌, map}
use Prim.Native.Nat.{ℕ, zero, suc, ◌+◌, ◌≤◌, ◌<◌}
use native.Mathlib.Decide.{dec_lt}
use native.Mathlib.Omega.{arith}
use borrow.Author.Tests.{eqb-true}
use lib.Dec.{ltb, leb}
use lib.ListN.{length, take}
use Rattle.le.proofs.Tests.{each, all}
use Rattle.units.specs.Money.{grains_to_fen}
use Rattle.units.specs.Month.{months_per_year}
use Rattle.book.specs.declared.Header.{Header}
use Rattle.book.specs.Book.{most_keys, most_area, first_year, last_year}
use Rattle.book.specs.Check.{header_is_sound}
use Rattle.share.specs.Sharing.{most_number, most_status, most_energy, most_compensation, most_assessment, most_part}
use Rattle.month.specs.declared.Row.{Row}
use Rattle.month.specs.declared.Statement.{Statement}
use Rattle.register.specs.Register.{most_entries}
use Rattle.year.specs.declared.YearLine.{YearLine}
use Rattle.year.specs.Year.{most_either_way, is_within, date_is_sound, year_line_is_sound, lines_are_sound, lines_in, adds_to_zero, statement_is_sound}
use Rattle.year.proofs.Statements.{by_lines}
use Rattle.intake.specs.Limits.{head_is_within, most_hours, most_weight, row_is_within, gap_is_within, first_beyond, line_beyond, statement_is_within}
use Rattle.intake.specs.Intake.{year_line, year_lines, month_statement}
use Rattle.intake.proofs.Walks.{at_head, at_row, at_gap, at_user, row_step, row_stop}

-- Each line

-- the tests of a member's line behind the first
abbrev pub row_tests : Row → List Bool
row_tests r =
    leb r.number most_number ∷ leb 0 most_status ∷ leb r.energy.0 most_energy ∷ leb r.compensation.0 most_compensation ∷ leb r.assessment.0 most_assessment
    ∷ leb r.hours most_hours ∷ leb (grains_to_fen r.grains.0) most_compensation ∷ leb r.weight most_weight ∷ is_within r.share.0
    ∷ leb r.uncollected.0 most_either_way ∷ leb r.given.0 most_either_way ∷ is_within r.amount.0 ∷ []

abbrev line_tests : YearLine → List Bool
line_tests l =
    leb l.number most_number ∷ leb l.compensation.0 most_compensation ∷ leb l.assessment.0 most_assessment ∷ is_within l.share.0 ∷ is_within l.amount.0 ∷ []

row_sound : (before : ℕ) (r : Row) → row_is_within before r ≡ true → year_line_is_sound before (year_line r) ≡ true
unfolding row_is_within year_line_is_sound year_line
row_sound before r h =
    let e = (each (ltb before r.number) (row_tests r) h).1 in
    let first = (each (ltb before r.number) (row_tests r) h).0 in
    all (ltb before r.number) (line_tests (year_line r))
    (first, (e.0, (e.1.1.1.0, (e.1.1.1.1.0, (e.1.1.1.1.1.1.1.1.0, (e.1.1.1.1.1.1.1.1.1.1.1.0, tt))))))

-- no more rows are beyond than there are
beyond_le : (before : ℕ) (rs : List Row) → first_beyond before rs ≤ length rs
unfolding first_beyond
beyond_le before [] = omega arith
beyond_le before (r ∷ rs) = go (row_is_within before r) (beyond_le r.number rs)
  where
    go : (t : Bool) → first_beyond r.number rs ≤ length rs → cond t (suc (first_beyond r.number rs)) 0 ≤ suc (length rs)
    go true h = omega (arith, h)
    go false h = omega arith

rows_sound : (before : ℕ) (rs : List Row) → length rs ≤ first_beyond before rs → lines_are_sound before (year_lines rs) ≡ true
unfolding lines_are_sound year_line
rows_sound before [] h = refl
rows_sound before (r ∷ rs) h = go (row_is_within before r) refl (rows_sound r.number rs)
  where
    go : (t : Bool) → row_is_within before r ≡ t → (length rs ≤ first_beyond r.number rs → lines_are_sound r.number (year_lines rs) ≡ true)
        → (year_line_is_sound before (year_line r) && lines_are_sound r.number (year_lines rs)) ≡ true
    go true e rec = rw (row_sound before r e, rec (omega (arith, h, row_step before r rs e)))
    go false e rec = absurd (omega (arith, h, row_stop before r rs e))

pub take_mapped : {A B : Type 0} (f : A → B) (n : ℕ) (xs : List A) → take n (map f xs) ≡ map f (take n xs)
take_mapped f zero xs = refl
take_mapped f (suc n) [] = refl
take_mapped {B = B} f (suc n) (x ∷ xs) = ap (λ (ys : List B). f x ∷ ys) (take_mapped f n xs)

-- The whole statement

-- no line is beyond its limits, one kind after another
pub record Clean (s : Statement) : Type 0 where
  pub head : head_is_within s.header s.calls s.part ≡ true
  pub rows : s.count ≤ first_beyond 0 (take s.count s.rows)
  pub gap : gap_is_within s.gap.0 ≡ true
  pub user : is_within s.user.0 ≡ true

pub clean_of : (s : Statement) → statement_is_within s ≡ true → Clean s
unfolding statement_is_within
clean_of s h = heads (head_is_within s.header s.calls s.part) refl
  where
    is : line_beyond s ≡ 3 + s.count
    is = eqb-true (line_beyond s) (3 + s.count) h

    bad : ℕ
    bad = first_beyond 0 (take s.count s.rows)

    users : (t : Bool) → is_within s.user.0 ≡ t → head_is_within s.header s.calls s.part ≡ true → s.count ≤ first_beyond 0 (take s.count s.rows)
        → gap_is_within s.gap.0 ≡ true → Clean s
    users true e a b g = record { head = a; rows = b; gap = g; user = e }
    users false e a b g = absurd (omega (arith, is, at_user s a b g e))

    gaps : (t : Bool) → gap_is_within s.gap.0 ≡ t → head_is_within s.header s.calls s.part ≡ true → s.count ≤ first_beyond 0 (take s.count s.rows) → Clean s
    gaps true e a b = users (is_within s.user.0) refl a b e
    gaps false e a b = absurd (omega (arith, is, at_gap s a b e))

    members : head_is_within s.header s.calls s.part ≡ true → Dec (first_beyond 0 (take s.count s.rows) < s.count) → Clean s
    members a (yes k) = absurd (omega (arith, is, k, at_row s a k))
    members a (no k) = gaps (gap_is_within s.gap.0) refl a (omega (arith, k))

    heads : (t : Bool) → head_is_within s.header s.calls s.part ≡ t → Clean s
    heads true e = members e (dec_lt (first_beyond 0 (take s.count s.rows)) s.count)
    heads false e = absurd (omega (arith, is, at_head s e))

abbrev pub header_tests : Header → List Bool
header_tests h = leb h.area most_area ∷ leb first_year h.year ∷ leb h.year last_year ∷ leb 1 h.month ∷ leb h.month months_per_year ∷ []

date_sound : (h : Header) (calls part : ℕ) → head_is_within h calls part ≡ true → date_is_sound h.year h.month ≡ true
unfolding head_is_within header_is_sound date_is_sound
date_sound h calls part k =
    let e = (each (header_is_sound h) (leb calls most_keys ∷ leb part most_part ∷ []) k).0 in
    let d = (each (leb 1 h.area) (header_tests h) e).1.1 in
    all (leb first_year h.year) (leb h.year last_year ∷ leb 1 h.month ∷ leb h.month months_per_year ∷ []) d

pub lines_sound : (s : Statement) → Clean s → lines_are_sound 0 (lines_in (month_statement s)) ≡ true
unfolding month_statement
lines_sound s c =
    let some = beyond_le 0 (take s.count s.rows) in
    let most = take_le s.count s.rows in
    ap (lines_are_sound 0) (take_mapped year_line s.count s.rows) ∙ rows_sound 0 (take s.count s.rows) (omega (arith, some, most, c.rows))
  where
    take_le : {A : Type 0} (n : ℕ) (xs : List A) → length (take n xs) ≤ n
    take_le zero xs = omega arith
    take_le (suc n) [] = omega arith
    take_le (suc n) (x ∷ xs) = omega (arith, take_le n xs)

-- WITHIN THE LIMITS, it is sound where its amounts and the user's add up to zero.
pub sound_zero : (s : Statement) → s.count ≤ most_entries → statement_is_within s ≡ true
    → statement_is_sound (month_statement s) ≡ adds_to_zero (lines_in (month_statement s)) s.user.0
unfolding month_statement
sound_zero s few h =
    let c = clean_of s h in
    sym (by_lines (month_statement s) (date_sound s.header s.calls s.part c.head) few c.user)
    ∙ ap (λ (b : Bool). b && adds_to_zero (lines_in (month_statement s)) s.user.0) (lines_sound s c)
