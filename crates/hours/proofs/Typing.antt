-- What a line says that was read from its cells. Assumes nothing.
use Rattle.std.proofs.Common.{◌≡◌, ℕ, ◌≤◌, Bool, true, false, cond, leb, List, [], ◌∷◌, ◌++◌, length, get_or, take, sym, refl, ap, ◌∙◌, arith, le-leb, leb-true}
use Rattle.le.proofs.Tests.{joined, each, holds_or_fails}
use Rattle.row.specs.Numbers.{ceiling}
use Rattle.row.specs.Meaning.{most_columns}
use Rattle.grid.specs.declared.Grid.{Grid}
use Rattle.grid.specs.Meaning.{cell_told, all_told}
use Rattle.grid.proofs.Ends.{cells_here, row_here, row_not}
use Rattle.ramp.specs.Ramping.{no_action}
use Rattle.hours.specs.declared.HourLine.{HourLine}
use Rattle.hours.specs.Hours.{as_hour_line}
use Rattle.hours.specs.Inner.{most_short, most_word, hour_line_fits, blank_hour_line, fair_hour_line, ended_line, seven_of}
use Rattle.hours.proofs.Sound.{word_tests}

-- Seven numbers

-- the line by the numbers that ended, and the open one
abbrev pub line_by : List ℕ → ℕ → HourLine
line_by d standard =
    record {
      hour = get_or d 0 0;
      action =
          record {
            start = record { 0 = get_or d 1 0 };
            end = record { 0 = get_or d 2 0 };
            command = record { 0 = get_or d 3 0 };
            delay = get_or d 4 0;
            real = get_or d 5 0;
            standard = standard;
          };
    }

-- the tests of its numbers, as the code has them
abbrev pub fits_by : List ℕ → ℕ → Bool
fits_by d standard = joined (leb (get_or d 0 0) most_short) (word_tests (line_by d standard).action)

-- the limits that the casts of its numbers need
abbrev pub Casts : List ℕ → ℕ → Type 0
Casts d standard =
    (get_or d 0 0 ≤ most_short) × (get_or d 1 0 ≤ most_word) × (get_or d 2 0 ≤ most_word) × (get_or d 3 0 ≤ most_word) × (get_or d 4 0 ≤ most_word) × (get_or d 5 0 ≤ most_word)
    × (standard ≤ most_word)

pub seven_casts : (d : List ℕ) (standard : ℕ) → fits_by d standard ≡ true → Casts d standard
seven_casts d standard h =
    let p = each (leb (get_or d 0 0) most_short) (word_tests (line_by d standard).action) h in
    let q = p.1.1.1.1 in
    (leb-true _ _ p.0, leb-true _ _ p.1.0, leb-true _ _ p.1.1.0, leb-true _ _ p.1.1.1.0, leb-true _ _ q.0, leb-true _ _ q.1.0, leb-true _ _ q.1.1.0)

line_by_lem : (d : List ℕ) (standard : ℕ) → length d ≡ 8 → line_by d standard ≡ as_hour_line (seven_of d standard)
unfolding as_hour_line
line_by_lem [] x h = absurd (omega arith)
line_by_lem (a ∷ []) x h = absurd (omega arith)
line_by_lem (a ∷ b ∷ []) x h = absurd (omega arith)
line_by_lem (a ∷ b ∷ c ∷ []) x h = absurd (omega arith)
line_by_lem (a ∷ b ∷ c ∷ d ∷ []) x h = absurd (omega arith)
line_by_lem (a ∷ b ∷ c ∷ d ∷ e ∷ []) x h = absurd (omega arith)
line_by_lem (a ∷ b ∷ c ∷ d ∷ e ∷ f ∷ ns) x h = refl

module _ (d : List ℕ) (standard : ℕ) (long : length d ≡ 8) where
  fair_by_lem : (t : Bool) → fits_by d standard ≡ t → cond t (line_by d standard) blank_hour_line ≡ fair_hour_line (as_hour_line (seven_of d standard))
  unfolding fair_hour_line hour_line_fits
  fair_by_lem t e = ap (λ (u : Bool). cond u (line_by d standard) blank_hour_line) (sym e) ∙ ap (λ (l : HourLine). fair_hour_line l) (line_by_lem d standard long)

  pub seven_fits : fits_by d standard ≡ true → line_by d standard ≡ fair_hour_line (as_hour_line (seven_of d standard))
  seven_fits = fair_by_lem true

  pub seven_not : fits_by d standard ≡ false → blank_hour_line ≡ fair_hour_line (as_hour_line (seven_of d standard))
  seven_not = fair_by_lem false

-- Cells

-- numbers that fit are numbers
told_fits : (d : List ℕ) (standard : ℕ) → length d ≡ 8 → fits_by d standard ≡ true → all_told (seven_of d standard) ≡ true
told_fits [] x l h = absurd (omega arith)
told_fits (a ∷ []) x l h = absurd (omega arith)
told_fits (a ∷ b ∷ []) x l h = absurd (omega arith)
told_fits (a ∷ b ∷ c ∷ []) x l h = absurd (omega arith)
told_fits (a ∷ b ∷ c ∷ d ∷ []) x l h = absurd (omega arith)
told_fits (a ∷ b ∷ c ∷ d ∷ e ∷ []) x l h = absurd (omega arith)
told_fits (a ∷ b ∷ c ∷ d ∷ e ∷ f ∷ ns) x l h =
    let q = seven_casts (a ∷ b ∷ c ∷ d ∷ e ∷ f ∷ ns) x h in
    rw (
      le-leb a ceiling (omega arith),
      le-leb b ceiling (omega arith),
      le-leb c ceiling (omega arith),
      le-leb d ceiling (omega arith),
      le-leb e ceiling (omega arith),
      le-leb f ceiling (omega arith),
      le-leb x ceiling (omega arith),
    )

pub blank_fair : blank_hour_line ≡ fair_hour_line (as_hour_line [])
unfolding as_hour_line fair_hour_line hour_line_fits blank_hour_line no_action
blank_fair = refl

-- a line whose cells are not all numbers is as bad as one of none
fair_told : (d : List ℕ) (standard : ℕ) → length d ≡ 8
    → fair_hour_line (as_hour_line (seven_of d standard)) ≡ fair_hour_line (as_hour_line (cond (all_told (seven_of d standard)) (seven_of d standard) []))
fair_told d x l = go (all_told (seven_of d x)) refl
  where
    bad : (t : Bool) → fits_by d x ≡ t → all_told (seven_of d x) ≡ false → blank_hour_line ≡ fair_hour_line (as_hour_line (seven_of d x))
    bad true w f = absurd (holds_or_fails (told_fits d x l w) f)
    bad false w f = seven_not d x l w

    go : (t : Bool) → all_told (seven_of d x) ≡ t → fair_hour_line (as_hour_line (seven_of d x)) ≡ fair_hour_line (as_hour_line (cond t (seven_of d x) []))
    go true f = refl
    go false f = sym (bad (fits_by d x) refl f) ∙ blank_fair

-- A line that ends

module _ (grid : Grid) (ended : List ℕ) (long : length ended ≡ 8) where
  pub line_whole : (v : ℕ) → grid.at ≡ 6 → v ≡ cell_told grid.cell → fair_hour_line (as_hour_line (seven_of ended v)) ≡ fair_hour_line (ended_line grid ended)
  line_whole v at e =
      let room : most_columns ≤ length ended = omega arith in
      let here : seven_of ended v ≡ cells_here grid ended room = (λ i. take (sym at i) ended ++ e i ∷ []) in
      fair_told ended v long
      ∙ ap (λ (ns : List ℕ). fair_hour_line (as_hour_line (cond (all_told ns) ns []))) here
      ∙ ap (λ (ns : List ℕ). fair_hour_line (as_hour_line ns)) (sym (row_here grid ended room 7 (omega arith) (omega arith)))

  pub line_none : (grid.at ≡ 6 → ⊥) → blank_hour_line ≡ fair_hour_line (ended_line grid ended)
  line_none ne = blank_fair ∙ ap (λ (ns : List ℕ). fair_hour_line (as_hour_line ns)) (sym (row_not grid ended (omega arith) 7 (λ e. ne (omega arith)) (omega arith)))
