-- The text that a settled month is written as is taken with the month's own numbers. Assumes nothing.
use mathlib.Core.Path.{◌≡◌, refl, sym, ap, ◌∙◌}
use mathlib.Core.Bool.{true}
use mathlib.Core.List.{List, [], ◌∷◌, ◌++◌, map}
use Prim.Native.Nat.{ℕ, zero, suc, ◌+◌, ◌-◌, ◌≤◌, ◌<◌}
use native.Mathlib.Omega.{arith}
use borrow.Author.Tests.{lt-ltb, le-leb, eq-eqb}
use lib.Dec.{ltb, leb}
use lib.IntN.{ℤ, nat_abs, ◌+ℤ◌, +ℤ_idl}
use lib.ListN.{length, get_or, take, replicate}
use Rattle.le.proofs.Tests.{all}
use Rattle.units.specs.Money.{grains_to_fen}
use Rattle.book.specs.Book.{most_keys, header_at, count_at}
use Rattle.book.specs.Check.{accepted, check, header_is_sound}
use Rattle.book.proofs.Exact.{accepted_tests, accepted_few}
use Rattle.book.proofs.Heads.{headed_is}
use Rattle.share.specs.Sharing.{most_compensation, most_part}
use Rattle.share.proofs.Promises as S
use Rattle.month.specs.declared.Fault.TheVariants.{NoFault}
use Rattle.month.specs.declared.Row.{Row}
use Rattle.month.specs.Settling.{MonthGiven, blank_row, filled_rows, settling}
use Rattle.month.specs.Outcomes.{ramped_of_line, lines_in, grains_in, shared_in}
use Rattle.month.proofs.Accepted.{rows_settled, length_rows, length_in, passed}
use Rattle.month.proofs.Promises.{compensation_is, line_is, line_count, amounts_zero}
use Rattle.posted.specs.Posted.{posted_text}
use Rattle.posted.specs.Reading.{Posted, ReadPosted}
use Rattle.posted.proofs.Fits.{RowWithin, row_before, few_entries, month_within, told_row, month_gap, month_user}
use Rattle.posted.proofs.Promises.{month_front, month_filled, month_settled}
use Rattle.year.specs.declared.Year.{Year}
use Rattle.year.specs.Year.{most_statements, lines_in as lines_of, sumℤ, amounts_of, adds_to_zero, statement_is_sound, year_in, last_month, year_of}
use Rattle.year.specs.Verdict.{GoesOn}
use Rattle.year.proofs.Lines.{yes_within}
use Rattle.year.proofs.Statements.{statement_fits}
use Rattle.year.proofs.Taking.{year_with_lem}
use Rattle.intake.specs.Limits.{head_is_within, most_hours, row_is_within, gap_is_within, first_beyond, line_beyond, statement_is_within}
use Rattle.intake.specs.Intake.{year_line, year_lines, month_statement, area_after, statements_from, area_from, intake_of, intake_with}
use Rattle.intake.proofs.Walks.{row_step, at_none}
use Rattle.intake.proofs.Texts.{stands}
use Rattle.intake.proofs.Sound.{row_tests, header_tests, take_mapped, sound_zero}
use Rattle.intake.proofs.Promises.{stands_for, OwnText, own_taken, more_accepted}

-- what the ramping files say of their hours is no more than a month has
abbrev pub HoursOfMonth : MonthGiven → Type 0
HoursOfMonth g = (i : ℕ) → (ramped_of_line g i).hours ≤ most_hours

-- Its rows

row_yes : (before : ℕ) (r : Row) → RowWithin before r → r.hours ≤ most_hours → grains_to_fen r.grains.0 ≤ most_compensation → row_is_within before r ≡ true
unfolding row_is_within
row_yes before r w h g =
    all (ltb before r.number) (row_tests r) (
      lt-ltb before r.number w.number.0,
      (
        le-leb r.number 64 w.number.1,
        (
          refl,
          (
            le-leb r.energy.0 5000000 w.energy,
            (
              le-leb r.compensation.0 100000000000 w.compensation,
              (
                le-leb r.assessment.0 10000000 w.assessment,
                (
                  le-leb r.hours 744 h,
                  (
                    le-leb (grains_to_fen r.grains.0) 100000000000 g,
                    (
                      le-leb r.weight 60000000 w.weight,
                      (
                        yes_within r.share.0 (omega (arith, w.share)),
                        (
                          le-leb r.uncollected.0 200000000000 w.uncollected,
                          (le-leb r.given.0 200000000000 w.given, (yes_within r.amount.0 w.amount, tt)),
                        ),
                      ),
                    ),
                  ),
                ),
              ),
            ),
          ),
        ),
      ),
    )

-- the number of the row before a place; `first` before the first
abbrev behind : ℕ → List Row → ℕ → ℕ
behind first rs zero = first
behind first rs (suc k) = (get_or rs k blank_row).number

-- where each row is within its limits, none is beyond
none_beyond : (first : ℕ) (rs : List Row) → ((i : ℕ) → i < length rs → row_is_within (behind first rs i) (get_or rs i blank_row) ≡ true) → length rs ≤ first_beyond first rs
none_beyond first [] f = omega arith
none_beyond first (r ∷ rs) f = omega (arith, row_step first r rs (f 0 (omega arith)), none_beyond r.number rs (λ i l. on i (f (suc i) (omega (arith, l)))))
  where
    on : (i : ℕ) → row_is_within (behind first (r ∷ rs) (suc i)) (get_or rs i blank_row) ≡ true → row_is_within (behind r.number rs i) (get_or rs i blank_row) ≡ true
    on zero h = h
    on (suc i) h = h

-- Its sums

lines_sum : (rs : List Row) → sumℤ (amounts_of (year_lines rs)) ≡ S.sumℤ (map (λ r. r.amount.0) rs)
unfolding sumℤ year_line
lines_sum [] = refl
lines_sum (r ∷ rs) = ap (λ (z : ℤ). r.amount.0 +ℤ z) (lines_sum rs)

blanks_sum : (rs : List Row) (k : ℕ) → S.sumℤ (map (λ r. r.amount.0) (rs ++ replicate k blank_row)) ≡ S.sumℤ (map (λ r. r.amount.0) rs)
unfolding blank_row
blanks_sum [] zero = refl
blanks_sum [] (suc k) = +ℤ_idl _ ∙ blanks_sum [] k
blanks_sum (r ∷ rs) k = ap (λ (z : ℤ). r.amount.0 +ℤ z) (blanks_sum rs k)

-- the first line of a book that is accepted
head_yes : (b : List ℕ) (part : ℕ) → check b ≡ accepted → part ≤ most_part → head_is_within (header_at b) (count_at b) part ≡ true
unfolding head_is_within header_is_sound
head_yes b part e k =
    let h = headed_is b (accepted_tests b e).header in
    let a = h.heading in
    all (header_is_sound (header_at b)) (leb (count_at b) most_keys ∷ leb part most_part ∷ []) (
      all (leb 1 (header_at b).area) (header_tests (header_at b)) (
        le-leb 1 (header_at b).area a.area.0,
        (
          le-leb (header_at b).area 99 a.area.1,
          (
            le-leb 2024 (header_at b).year a.year.0,
            (le-leb (header_at b).year 2099 a.year.1, (le-leb 1 (header_at b).month a.month.0, (le-leb (header_at b).month 12 a.month.1, tt))),
          ),
        ),
      ),
      (le-leb (count_at b) most_keys (accepted_few b e), (le-leb part 10000 k, tt)),
    )

module _ (g : MonthGiven) (hours : HoursOfMonth g) (none : (settling g).fault ≡ NoFault) where
  long : length (rows_settled g) ≡ length g.entries
  long = length_rows _ (lines_in g) (grains_in g) g.ramped (shared_in g).parts ∙ length_in g

  before_is : (i : ℕ) → row_before (rows_settled g) i ≡ behind 0 (rows_settled g) i
  before_is zero = refl
  before_is (suc k) = refl

  rows_within : length (rows_settled g) ≤ first_beyond 0 (rows_settled g)
  rows_within = none_beyond 0 (rows_settled g) one
    where
      one : (i : ℕ) → i < length (rows_settled g) → row_is_within (behind 0 (rows_settled g) i) (get_or (rows_settled g) i blank_row) ≡ true
      one i l =
          let h : i < length g.entries = omega (arith, l, long) in
          let w = month_within g none i l in
          let e = told_row g none i h in
          let own : (get_or (rows_settled g) i blank_row).hours ≡ (ramped_of_line g i).hours = ap (λ (r : Row). r.hours) (sym e) ∙ (line_is g none i h).1 in
          let fen : (get_or (rows_settled g) i blank_row).compensation.0 ≡ grains_to_fen (get_or (rows_settled g) i blank_row).grains.0 =
          ap (λ (r : Row). r.compensation.0) (sym e) ∙ (compensation_is g none i h).3 ∙ ap (λ (r : Row). grains_to_fen r.grains.0) e in
          rw (← before_is i) (row_yes (row_before (rows_settled g) i) (get_or (rows_settled g) i blank_row) w (omega (arith, own, hours i)) (omega (arith, fen, w.compensation)))

  -- EVERY NUMBER OF ITS STATEMENT IS WITHIN ITS LIMIT,
  pub month_is_within : statement_is_within (settling g) ≡ true
  unfolding statement_is_within gap_is_within
  month_is_within =
      let s = settling g in
      let p = passed g none in
      let head : head_is_within s.header s.calls s.part ≡ true = rw p.is (head_yes g.book g.part p.book p.part) in
      let rows : s.count ≤ first_beyond 0 (take s.count s.rows) = rw (month_front g none) (omega (arith, rows_within, line_count g none, long)) in
      eq-eqb (line_beyond s) (3 + s.count)
      (sym (at_none s head rows (le-leb (nat_abs s.gap.0) 100000000000 (month_gap g none)) (yes_within s.user.0 (omega (arith, month_user g none)))))

  few : (settling g).count ≤ 64
  few = omega (arith, line_count g none, few_entries g none)

  adds_up : adds_to_zero (lines_of (month_statement (settling g))) (settling g).user.0 ≡ true
  unfolding adds_to_zero month_statement filled_rows
  adds_up =
      let s = settling g in
      let rs = rows_settled g in
      let own : sumℤ (amounts_of (take s.count (year_lines s.rows))) ≡ S.sumℤ (map (λ r. r.amount.0) rs) =
      ap (λ ls. sumℤ (amounts_of ls)) (take_mapped year_line s.count s.rows ∙ ap year_lines (month_front g none)) ∙ lines_sum rs in
      let all : S.sumℤ (map (λ r. r.amount.0) s.rows) ≡ S.sumℤ (map (λ r. r.amount.0) rs) =
      ap (λ (us : List Row). S.sumℤ (map (λ r. r.amount.0) us)) (month_filled g none) ∙ blanks_sum rs (64 - length rs) in
      eq-eqb (nat_abs (sumℤ (amounts_of (take s.count (year_lines s.rows))) +ℤ s.user.0)) 0
      (ap nat_abs (ap (λ (z : ℤ). z +ℤ s.user.0) (own ∙ sym all) ∙ amounts_zero g none))

  -- it is sound for the year,
  pub month_is_sound : statement_is_sound (month_statement (settling g)) ≡ true
  month_is_sound = sound_zero (settling g) few month_is_within ∙ adds_up

  -- and its text is its own.
  pub month_own : OwnText (settling g).header.area (posted_text (settling g)) (settling g)
  month_own = record { settled = month_settled g (λ i. omega (arith, hours i)) none; is = refl; area = refl; within = month_is_within }

  -- A SETTLED MONTH'S TEXT IS TAKEN: behind statements of its area and its year, the last of them of an earlier month, the year is that of theirs and of the month's own numbers.
  pub month_taken : (ps : List Posted) {p : Posted} → ReadPosted (posted_text (settling g)) p → (intake_of ps).year.number ≡ 0
      → area_after (area_from 0 ps) p ≡ (settling g).header.area → length (statements_from 0 ps) < most_statements
      → (0 < length (statements_from 0 ps) → (settling g).header.year ≡ year_in (statements_from 0 ps)) → last_month (statements_from 0 ps) < (settling g).header.month
      → ((intake_with (intake_of ps) p).year ≡ year_of (statements_from 0 ps ++ month_statement (settling g) ∷ [])) × ((intake_with (intake_of ps) p).year.number ≡ 0)
  unfolding intake_of intake_with month_statement
  month_taken ps {p} f accepted here some one later =
      let ss = statements_from 0 ps in
      let own : OwnText (area_after (area_from 0 ps) p) (posted_text (settling g)) (settling g) = rw here month_own in
      let o = own_taken (area_after (area_from 0 ps) p) (settling g) f own in
      let is : stands_for ps p ≡ month_statement (settling g) = sym (stands (area_after (area_from 0 ps) p) p (settling g) o.1 o.0) in
      let year = year_with_lem ss (stands_for ps p) ∙ ap (λ s. year_of (ss ++ s ∷ [])) is in
      let on : GoesOn ss (month_statement (settling g)) =
      record { few = some; year = one; month = later; fits = statement_fits (month_statement (settling g)) month_is_sound } in
      (year, ap (λ (y : Year). y.number) year ∙ (more_accepted ss (month_statement (settling g)) accepted).1 on)
