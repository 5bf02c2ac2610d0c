-- The loops over a statement's lines: judged in turn, their amounts added up, each added to its member. Assumes nothing.
use mathlib.Core.Path.{◌≡◌, refl, sym, ◌∙◌, ap}
use mathlib.Core.Bool.{Bool, true, false, ◌&&◌}
use mathlib.Core.List.{List, [], ◌∷◌}
use Prim.Native.Nat.{ℕ, zero, suc, ◌+◌, ◌-◌, ◌≤◌, ◌<◌}
use native.Mathlib.Nat.{not-suc-le-zero}
use native.Mathlib.Omega.{arith}
use lib.Dec.{eqb}
use lib.IntN.{ℤ, nat_abs, ◌+ℤ◌, +ℤ_idr, +ℤ_assoc}
use native.Mathlib.Numerals.{add-one}
use lib.ListN.{length, get_or, drop, set, drop_of_length-le}
use lib.Seq.{drop-cons}
use mir.Syntax.{w64}
use mir.Val.{of_z}
use Rattle.year.specs.declared.YearLine.{YearLine}
use Rattle.year.specs.declared.MemberYear.{MemberYear}
use Rattle.year.specs.Year.{year_line_is_sound, lines_are_sound, sumℤ, amounts_of, adds_to_zero, no_months}
use Rattle.year.specs.Verdict.{blank_line, LineFits}
use Rattle.year.specs.Every.{member_with, put_line, with_lines}
use Rattle.year.specs.Inner.{most_sum}
use Rattle.year.proofs.Signs.{zero_bits}
use Rattle.year.proofs.Lines.{lines_step, lines_bad, lines_fit}

either_default : {A : Type 0} (xs : List A) (k : ℕ) (d e : A) → k < length xs → get_or xs k d ≡ get_or xs k e
either_default [] k d e h = absurd (not-suc-le-zero h)
either_default (x ∷ xs) zero d e h = refl
either_default (x ∷ xs) (suc k) d e h = either_default xs k d e (omega (arith, h))

module _ (lines : List YearLine) where
  -- the lines that are left at a place, and the line there
  abbrev left : ℕ → List YearLine
  left i = drop i lines

  abbrev at : ℕ → YearLine
  at i = get_or lines i blank_line

  module _ (i : ℕ) (more : i < length lines) where
    next : left i ≡ at i ∷ left (i + 1)
    next = rw add-one (drop-cons lines i blank_line more)

    pub fits_at_lem : lines_are_sound 0 lines ≡ true → LineFits (at i)
    fits_at_lem s = (lines_fit 0 lines s i more).0

    pub lines_on : (out all : List MemberYear) (month : ℕ) (m d : MemberYear) → (at i).number - 1 < length out → m ≡ member_with (get_or out ((at i).number - 1) d) month (at i)
        → with_lines out month (left i) ≡ all → with_lines (set out ((at i).number - 1) m) month (left (i + 1)) ≡ all
    unfolding with_lines put_line
    lines_on out all month m d h e k =
        ap (λ (x : MemberYear). with_lines (set out ((at i).number - 1) x) month (left (i + 1)))
        (e ∙ ap (λ (x : MemberYear). member_with x month (at i)) (either_default out ((at i).number - 1) d no_months h))
        ∙ ap (with_lines out month) (sym next) ∙ k

    pub sound_on : (before : ℕ) → year_line_is_sound before (at i) ≡ true → lines_are_sound before (left i) ≡ lines_are_sound 0 lines
        → lines_are_sound (at i).number (left (i + 1)) ≡ lines_are_sound 0 lines
    sound_on before s k = sym (lines_step before (at i) (left (i + 1)) s) ∙ ap (lines_are_sound before) (sym next) ∙ k

    pub sound_off : (before : ℕ) → year_line_is_sound before (at i) ≡ false → lines_are_sound before (left i) ≡ lines_are_sound 0 lines → (u : Bool)
        → false ≡ (lines_are_sound 0 lines && u)
    sound_off before s k u = rw (sym k ∙ ap (lines_are_sound before) next ∙ lines_bad before (at i) (left (i + 1)) s)

    pub sum_on : (sum now : ℤ) → now ≡ sum +ℤ (at i).amount.0 → sum +ℤ sumℤ (amounts_of (left i)) ≡ sumℤ (amounts_of lines)
        → now +ℤ sumℤ (amounts_of (left (i + 1))) ≡ sumℤ (amounts_of lines)
    unfolding sumℤ
    sum_on sum now e k =
        ap (λ (z : ℤ). z +ℤ sumℤ (amounts_of (left (i + 1)))) e ∙ +ℤ_assoc sum (at i).amount.0 (sumℤ (amounts_of (left (i + 1))))
        ∙ ap (λ (ls : List YearLine). sum +ℤ sumℤ (amounts_of ls)) (sym next) ∙ k

  -- behind the last line
  module _ (i : ℕ) (end : length lines ≤ i) where
    pub all_sound : (before : ℕ) → lines_are_sound before (left i) ≡ lines_are_sound 0 lines → lines_are_sound 0 lines ≡ true
    unfolding lines_are_sound
    all_sound before k = sym k ∙ ap (lines_are_sound before) (drop_of_length-le lines {i = i} end)

    pub lines_end : (out all : List MemberYear) (month : ℕ) → with_lines out month (left i) ≡ all → out ≡ all
    unfolding with_lines
    lines_end out all month k = sym (ap (with_lines out month) (drop_of_length-le lines {i = i} end)) ∙ k

    pub all_added : (sum : ℤ) → sum +ℤ sumℤ (amounts_of (left i)) ≡ sumℤ (amounts_of lines) → sum ≡ sumℤ (amounts_of lines)
    unfolding sumℤ
    all_added sum k = sym (ap (λ (ls : List YearLine). sum +ℤ sumℤ (amounts_of ls)) (drop_of_length-le lines {i = i} end) ∙ +ℤ_idr sum) ∙ k

    pub zero_told : (before : ℕ) (sum user all : ℤ) → all ≡ sum +ℤ user → nat_abs all ≤ most_sum + most_sum
        → lines_are_sound before (left i) ≡ lines_are_sound 0 lines → sum +ℤ sumℤ (amounts_of (left i)) ≡ sumℤ (amounts_of lines)
        → eqb (of_z w64 all) 0 ≡ (lines_are_sound 0 lines && adds_to_zero lines user)
    unfolding adds_to_zero
    zero_told before sum user all e h s k =
        rw (all_sound before s) (zero_bits all h ∙ ap (λ (z : ℤ). eqb (nat_abs z) 0) (e ∙ ap (λ (z : ℤ). z +ℤ user) (all_added sum k)))
