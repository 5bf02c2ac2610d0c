-- A statement within the limits, and one that goes on behind others, by their tests and by their conditions. Assumes nothing.
use mathlib.Core.Path.{◌≡◌, refl, ap}
use mathlib.Core.Bool.{Bool, true, false, ◌&&◌, ◌||◌}
use mathlib.Core.List.{List, [], ◌∷◌}
use Prim.Native.Nat.{ℕ, ◌≤◌, ◌<◌}
use native.Mathlib.Decide.{dec_lt}
use native.Mathlib.Omega.{arith}
use borrow.Author.Tests.{ltb-true, leb-true, eqb-true, lt-ltb, le-leb, lt-leb, eq-eqb, ne_eqb}
use lib.Dec.{ltb, leb, eqb}
use lib.IntN.{ℤ, pos, nat_abs, ◌+ℤ◌}
use lib.ListN.{length}
use Rattle.le.proofs.Tests.{each, all}
use Rattle.units.specs.Month.{months_per_year}
use Rattle.book.specs.Book.{first_year, last_year}
use Rattle.share.proofs.Signs.{none_abs}
use Rattle.year.specs.declared.YearLine.{YearLine}
use Rattle.year.specs.declared.MonthStatement.{MonthStatement}
use Rattle.year.specs.Year.{most_statements, most_members, is_within, lines_in, date_is_sound, lines_are_sound, sumℤ, amounts_of, adds_to_zero, statement_is_sound, year_in, last_month, goes_on}
use Rattle.year.specs.Verdict.{StatementFits, GoesOn}
use Rattle.year.proofs.Lines.{within_yes, yes_within, lines_fit, fit_lines}

-- A statement by itself

abbrev date_tests : ℕ → ℕ → List Bool
date_tests year month = leb year last_year ∷ leb 1 month ∷ leb month months_per_year ∷ []

date_yes : (year month : ℕ) → date_is_sound year month ≡ true → ((first_year ≤ year) × (year ≤ last_year)) × ((1 ≤ month) × (month ≤ months_per_year))
unfolding date_is_sound
date_yes year month h =
    let e = each (leb first_year year) (date_tests year month) h in
    ((leb-true first_year year e.0, leb-true year last_year e.1.0), (leb-true 1 month e.1.1.0, leb-true month months_per_year e.1.1.1.0))

yes_date : (year month : ℕ) → (first_year ≤ year) × (year ≤ last_year) → (1 ≤ month) × (month ≤ months_per_year) → date_is_sound year month ≡ true
unfolding date_is_sound
yes_date year month y m =
    all (leb first_year year) (date_tests year month)
    (le-leb first_year year y.0, (le-leb year last_year y.1, (le-leb 1 month m.0, (le-leb month months_per_year m.1, tt))))

zero_yes : (ls : List YearLine) (user : ℤ) → adds_to_zero ls user ≡ true → sumℤ (amounts_of ls) +ℤ user ≡ pos 0
unfolding adds_to_zero
zero_yes ls user h = none_abs (sumℤ (amounts_of ls) +ℤ user) (eqb-true (nat_abs (sumℤ (amounts_of ls) +ℤ user)) 0 h)

yes_zero : (ls : List YearLine) (user : ℤ) → sumℤ (amounts_of ls) +ℤ user ≡ pos 0 → adds_to_zero ls user ≡ true
unfolding adds_to_zero
yes_zero ls user h = eq-eqb (nat_abs (sumℤ (amounts_of ls) +ℤ user)) 0 (ap nat_abs h)

abbrev tests : MonthStatement → List Bool
tests s = leb s.count most_members ∷ is_within s.user.0 ∷ lines_are_sound 0 (lines_in s) ∷ adds_to_zero (lines_in s) s.user.0 ∷ []

-- its lines in turn, as they are tested
pub lines_tested : (s : MonthStatement) → statement_is_sound s ≡ true → lines_are_sound 0 (lines_in s) ≡ true
unfolding statement_is_sound
lines_tested s h = (each (date_is_sound s.year s.month) (tests s) h).1.1.1.0

pub statement_fits : (s : MonthStatement) → statement_is_sound s ≡ true → StatementFits s
unfolding statement_is_sound
statement_fits s h =
    let e = each (date_is_sound s.year s.month) (tests s) h in
    let d = date_yes s.year s.month e.0 in
    record {
      year = d.0;
      month = d.1;
      few = leb-true s.count most_members e.1.0;
      user = within_yes s.user.0 e.1.1.0;
      lines = lines_fit 0 (lines_in s) e.1.1.1.0;
      zero = zero_yes (lines_in s) s.user.0 e.1.1.1.1.0;
    }

pub fits_statement : (s : MonthStatement) → StatementFits s → statement_is_sound s ≡ true
unfolding statement_is_sound
fits_statement s f =
    all (date_is_sound s.year s.month) (tests s) (
      yes_date s.year s.month f.year f.month,
      (
        le-leb s.count most_members f.few,
        (yes_within s.user.0 f.user, (fit_lines 0 (lines_in s) f.lines, (yes_zero (lines_in s) s.user.0 f.zero, tt))),
      ),
    )

-- The ways in which it is judged

module _ (s : MonthStatement) where
  pub undated : date_is_sound s.year s.month ≡ false → false ≡ statement_is_sound s
  unfolding statement_is_sound
  undated h = rw h

  pub too_many : most_members < s.count → false ≡ statement_is_sound s
  unfolding statement_is_sound
  too_many h = rw (lt-leb s.count most_members h) (go (date_is_sound s.year s.month))
    where
      go : (t : Bool) → false ≡ (t && false && is_within s.user.0 && lines_are_sound 0 (lines_in s) && adds_to_zero (lines_in s) s.user.0)
      go true = refl
      go false = refl

  pub user_beyond : is_within s.user.0 ≡ false → false ≡ statement_is_sound s
  unfolding statement_is_sound
  user_beyond h = rw h (go (date_is_sound s.year s.month) (leb s.count most_members))
    where
      go : (t u : Bool) → false ≡ (t && u && false && lines_are_sound 0 (lines_in s) && adds_to_zero (lines_in s) s.user.0)
      go true true = refl
      go true false = refl
      go false u = refl

  pub by_lines : date_is_sound s.year s.month ≡ true → s.count ≤ most_members → is_within s.user.0 ≡ true
      → (lines_are_sound 0 (lines_in s) && adds_to_zero (lines_in s) s.user.0) ≡ statement_is_sound s
  unfolding statement_is_sound
  by_lines d c u = rw (d, le-leb s.count most_members c, u)

-- Behind others

one_year : (n year before : ℕ) → (eqb n 0 || eqb year before) ≡ true → 0 < n → year ≡ before
one_year n year before h some = eqb-true year before (rw (ne_eqb n 0 (λ e. omega (arith, e, some))) at h)

year_one : (n year before : ℕ) → (0 < n → year ≡ before) → (eqb n 0 || eqb year before) ≡ true
year_one n year before h = go (dec_lt 0 n)
  where
    either : (t : Bool) → (t || true) ≡ true
    either true = refl
    either false = refl

    go : Dec (0 < n) → (eqb n 0 || eqb year before) ≡ true
    go (yes some) = rw (eq-eqb year before (h some)) (either (eqb n 0))
    go (no none) = rw (eq-eqb n 0 (omega (arith, none)))

abbrev turn_tests : List MonthStatement → MonthStatement → List Bool
turn_tests before s = (eqb (length before) 0 || eqb s.year (year_in before)) ∷ ltb (last_month before) s.month ∷ statement_is_sound s ∷ []

pub turn_sound : (before : List MonthStatement) (s : MonthStatement) → goes_on before s ≡ true → statement_is_sound s ≡ true
unfolding goes_on
turn_sound before s h = (each (ltb (length before) most_statements) (turn_tests before s) h).1.1.1.0

pub goes_on_lem : (before : List MonthStatement) (s : MonthStatement) → goes_on before s ≡ true → GoesOn before s
unfolding goes_on
goes_on_lem before s h =
    let e = each (ltb (length before) most_statements) (turn_tests before s) h in
    record {
      few = ltb-true (length before) most_statements e.0;
      year = one_year (length before) s.year (year_in before) e.1.0;
      month = ltb-true (last_month before) s.month e.1.1.0;
      fits = statement_fits s e.1.1.1.0;
    }

pub on_goes : (before : List MonthStatement) (s : MonthStatement) → GoesOn before s → goes_on before s ≡ true
unfolding goes_on
on_goes before s g =
    all (ltb (length before) most_statements) (turn_tests before s) (
      lt-ltb (length before) most_statements g.few,
      (year_one (length before) s.year (year_in before) g.year, (lt-ltb (last_month before) s.month g.month, (fits_statement s g.fits, tt))),
    )
