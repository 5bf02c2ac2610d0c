-- Lines within the limits, by their tests and by their conditions. Assumes nothing.
use mathlib.Core.Path.{◌≡◌, refl}
use mathlib.Core.Bool.{Bool, true, false, ◌&&◌}
use mathlib.Core.List.{List, [], ◌∷◌}
use Prim.Native.Nat.{ℕ, zero, suc, ◌≤◌, ◌<◌}
use native.Mathlib.Nat.{not-suc-le-zero}
use native.Mathlib.Omega.{arith}
use borrow.Author.Tests.{ltb-true, leb-true, lt-ltb, le-leb}
use lib.Dec.{ltb, leb}
use lib.IntN.{ℤ, nat_abs}
use Rattle.le.proofs.Tests.{each, all}
use Rattle.share.specs.Sharing.{most_number, most_compensation, most_assessment}
use Rattle.year.specs.declared.YearLine.{YearLine}
use Rattle.year.specs.Year.{most_either_way, is_within, year_line_is_sound, lines_are_sound}
use Rattle.year.specs.Verdict.{LineFits, number_before, LinesFit}

pub within_yes : (z : ℤ) → is_within z ≡ true → nat_abs z ≤ most_either_way
unfolding is_within
within_yes z h = leb-true (nat_abs z) most_either_way h

pub yes_within : (z : ℤ) → nat_abs z ≤ most_either_way → is_within z ≡ true
unfolding is_within
yes_within z h = le-leb (nat_abs z) most_either_way h

-- A line

abbrev tests : YearLine → List Bool
tests l =
    leb l.number most_number ∷ leb l.compensation.0 most_compensation ∷ leb l.assessment.0 most_assessment ∷ is_within l.share.0 ∷ is_within l.amount.0 ∷ []

pub line_fits : (before : ℕ) (l : YearLine) → year_line_is_sound before l ≡ true → LineFits l × (before < l.number)
unfolding year_line_is_sound
line_fits before l h =
    let e = each (ltb before l.number) (tests l) h in
    let rises = ltb-true before l.number e.0 in (
      record {
        number = (omega (arith, rises), leb-true l.number most_number e.1.0);
        compensation = leb-true l.compensation.0 most_compensation e.1.1.0;
        assessment = leb-true l.assessment.0 most_assessment e.1.1.1.0;
        share = within_yes l.share.0 e.1.1.1.1.0;
        amount = within_yes l.amount.0 e.1.1.1.1.1.0;
      },
      rises,
    )

pub fits_line : (before : ℕ) (l : YearLine) → LineFits l → before < l.number → year_line_is_sound before l ≡ true
unfolding year_line_is_sound
fits_line before l f rises =
    all (ltb before l.number) (tests l) (
      lt-ltb before l.number rises,
      (
        le-leb l.number most_number f.number.1,
        (
          le-leb l.compensation.0 most_compensation f.compensation,
          (
            le-leb l.assessment.0 most_assessment f.assessment,
            (yes_within l.share.0 f.share, (yes_within l.amount.0 f.amount, tt)),
          ),
        ),
      ),
    )

-- Lines in turn

pub two : (t u : Bool) → (t && u) ≡ true → (t ≡ true) × (u ≡ true)
two t u h = let e = each t (u ∷ []) h in (e.0, e.1.0)

pub lines_step : (before : ℕ) (l : YearLine) (ls : List YearLine) → year_line_is_sound before l ≡ true → lines_are_sound before (l ∷ ls) ≡ lines_are_sound l.number ls
unfolding lines_are_sound
lines_step before l ls h = rw h

pub lines_bad : (before : ℕ) (l : YearLine) (ls : List YearLine) → year_line_is_sound before l ≡ false → lines_are_sound before (l ∷ ls) ≡ false
unfolding lines_are_sound
lines_bad before l ls h = rw h

number_step : (first : ℕ) (l : YearLine) (ls : List YearLine) (k : ℕ) → number_before l.number ls k ≡ number_before first (l ∷ ls) (suc k)
unfolding number_before
number_step first l ls zero = refl
number_step first l ls (suc k) = refl

pub lines_fit : (first : ℕ) (ls : List YearLine) → lines_are_sound first ls ≡ true → LinesFit first ls
unfolding lines_are_sound number_before
lines_fit first [] h k i = absurd (not-suc-le-zero i)
lines_fit first (l ∷ ls) h zero i = line_fits first l (two (year_line_is_sound first l) (lines_are_sound l.number ls) h).0
lines_fit first (l ∷ ls) h (suc k) i =
    let rest = lines_fit l.number ls (two (year_line_is_sound first l) (lines_are_sound l.number ls) h).1 k (omega (arith, i)) in
    (rest.0, rw (← (number_step first l ls k)) rest.1)

pub fit_lines : (first : ℕ) (ls : List YearLine) → LinesFit first ls → lines_are_sound first ls ≡ true
unfolding lines_are_sound number_before
fit_lines first [] f = refl
fit_lines first (l ∷ ls) f =
    let here = f 0 (omega arith) in
    rw (fits_line first l here.0 here.1)
    (fit_lines l.number ls (λ k i. let next = f (suc k) (omega (arith, i)) in (next.0, rw (number_step first l ls k) next.1)))
