-- Statements that are accepted: each sound, all of one year, months rising; a member's lines rise with them. Assumes nothing.
use mathlib.Core.Path.{◌≡◌, refl, sym, ◌∙◌, ap, subst}
use mathlib.Core.Bool.{true}
use mathlib.Core.List.{List, [], ◌∷◌, ◌++◌}
use mathlib.Core.Logic.{◌↔◌}
use Prim.Native.Nat.{ℕ, zero, suc, ◌+◌, ◌≤◌, ◌<◌}
use native.Mathlib.Decide.{dec_lt}
use native.Mathlib.Omega.{arith}
use lib.ListN.{length, get_or, length-append}
use lib.Seq.{append_snoc}
use Rattle.year.specs.declared.MonthStatement.{MonthStatement}
use Rattle.year.specs.declared.Year.{Year}
use Rattle.year.specs.Year.{most_statements, statement_is_sound, year_in, last_month, first_bad_statement, year_refused, year_taken, year_of}
use Rattle.year.specs.Verdict.{blank_statement, StatementFits, Acceptable}
use Rattle.year.proofs.Statements.{statement_fits, fits_statement, turn_sound, goes_on_lem, on_goes}
use Rattle.year.proofs.Taking.{bad_le, refused_is, taken_is, InTurn, in_turn, turn_in, last_more}

-- months above m, rising
abbrev pub Rises : ℕ → List MonthStatement → Type 0
Rises m [] = Unit {0}
Rises m (s ∷ ss) = (m < s.month) × Rises s.month ss

-- all of one year
abbrev pub AllOf : ℕ → List MonthStatement → Type 0
AllOf year [] = Unit {0}
AllOf year (s ∷ ss) = (s.year ≡ year) × AllOf year ss

-- each sound
abbrev pub Sounds : List MonthStatement → Type 0
Sounds [] = Unit {0}
Sounds (s ∷ ss) = (statement_is_sound s ≡ true) × Sounds ss

-- In turn, and so by the whole list

pub turn_rises : (before ss : List MonthStatement) → InTurn before ss → Rises (last_month before) ss
turn_rises before [] t = tt
turn_rises before (s ∷ ss) t = ((goes_on_lem before s t.0).month, subst (λ (m : ℕ). Rises m ss) (last_more before s) (turn_rises (before ++ s ∷ []) ss t.1))

pub turn_sounds : (before ss : List MonthStatement) → InTurn before ss → Sounds ss
turn_sounds before [] t = tt
turn_sounds before (s ∷ ss) t = (turn_sound before s t.0, turn_sounds (before ++ s ∷ []) ss t.1)

first_year_lem : (before ss : List MonthStatement) → 0 < length before → year_in (before ++ ss) ≡ year_in before
unfolding year_in
first_year_lem [] ss h = absurd (omega (arith, h))
first_year_lem (x ∷ before) ss h = refl

pub turn_year : (before ss : List MonthStatement) → InTurn before ss → AllOf (year_in (before ++ ss)) ss
unfolding year_in
turn_year before [] t = tt
turn_year before (s ∷ ss) t = (
  its before (goes_on_lem before s t.0).year,
  subst (λ (b : List MonthStatement). AllOf (year_in b) ss) (append_snoc before s ss) (turn_year (before ++ s ∷ []) ss t.1),
)
  where
    its : (before : List MonthStatement) → (0 < length before → s.year ≡ year_in before) → s.year ≡ year_in (before ++ s ∷ ss)
    its [] h = refl
    its (x ∷ before) h = h (omega arith)

-- months of a year that rise are at most twelve
rises_few : (m : ℕ) (ss : List MonthStatement) → Rises m ss → Sounds ss → m ≤ most_statements → m + length ss ≤ most_statements
rises_few m [] r s h = omega (arith, h)
rises_few m (x ∷ ss) r s h =
    let most = (statement_fits x s.0).month.1 in
    omega (arith, r.0, rises_few x.month ss r.1 s.1 most)

-- and back
turn_of : (before ss : List MonthStatement) → Rises (last_month before) ss → AllOf (year_in (before ++ ss)) ss → Sounds ss → length before + length ss ≤ most_statements → InTurn before ss
turn_of before [] r y s h = tt
turn_of before (x ∷ ss) r y s h =
    let more = length-append before (x ∷ []) in (
      on_goes before x (record { few = omega (arith, h); year = λ some. y.0 ∙ first_year_lem before (x ∷ ss) some; month = r.0; fits = statement_fits x s.0 }),
      turn_of (before ++ x ∷ []) ss (subst (λ (m : ℕ). Rises m ss) (sym (last_more before x)) r.1)
          (subst (λ (b : List MonthStatement). AllOf (year_in b) ss) (sym (append_snoc before x ss)) y.1) s.1 (omega (arith, h, more)),
    )

pub all_turn : (ss : List MonthStatement) → Rises 0 ss → AllOf (year_in ss) ss → Sounds ss → InTurn [] ss
unfolding last_month
all_turn ss r y s = turn_of [] ss r y s (omega (arith, rises_few 0 ss r s (omega arith)))

-- The whole list, by places

rises_at : (m : ℕ) (ss : List MonthStatement) → Rises m ss → (k : ℕ) → k < length ss → m < (get_or ss k blank_statement).month
rises_at m [] r k h = absurd (omega (arith, h))
rises_at m (s ∷ ss) r zero h = r.0
rises_at m (s ∷ ss) r (suc k) h = omega (arith, r.0, rises_at s.month ss r.1 k (omega (arith, h)))

rises_pairs : (m : ℕ) (ss : List MonthStatement) → Rises m ss → (j k : ℕ) → j < k → k < length ss → (get_or ss j blank_statement).month < (get_or ss k blank_statement).month
rises_pairs m [] r j k h i = absurd (omega (arith, i))
rises_pairs m (s ∷ ss) r j zero h i = absurd (omega (arith, h))
rises_pairs m (s ∷ ss) r zero (suc k) h i = rises_at s.month ss r.1 k (omega (arith, i))
rises_pairs m (s ∷ ss) r (suc j) (suc k) h i = rises_pairs s.month ss r.1 j k (omega (arith, h)) (omega (arith, i))

rises_of : (m : ℕ) (ss : List MonthStatement) → ((k : ℕ) → k < length ss → m < (get_or ss k blank_statement).month)
    → ((j k : ℕ) → j < k → k < length ss → (get_or ss j blank_statement).month < (get_or ss k blank_statement).month) → Rises m ss
rises_of m [] low pairs = tt
rises_of m (s ∷ ss) low pairs = (
  low 0 (omega arith),
  rises_of s.month ss (λ k h. pairs 0 (suc k) (omega arith) (omega (arith, h))) (λ j k h i. pairs (suc j) (suc k) (omega (arith, h)) (omega (arith, i))),
)

year_at : (year : ℕ) (ss : List MonthStatement) → AllOf year ss → (k : ℕ) → k < length ss → (get_or ss k blank_statement).year ≡ year
year_at year [] y k h = absurd (omega (arith, h))
year_at year (s ∷ ss) y zero h = y.0
year_at year (s ∷ ss) y (suc k) h = year_at year ss y.1 k (omega (arith, h))

year_of_lem : (year : ℕ) (ss : List MonthStatement) → ((k : ℕ) → k < length ss → (get_or ss k blank_statement).year ≡ year) → AllOf year ss
year_of_lem year [] f = tt
year_of_lem year (s ∷ ss) f = (f 0 (omega arith), year_of_lem year ss (λ k h. f (suc k) (omega (arith, h))))

fit_at : (ss : List MonthStatement) → Sounds ss → (k : ℕ) → k < length ss → StatementFits (get_or ss k blank_statement)
fit_at [] f k h = absurd (omega (arith, h))
fit_at (s ∷ ss) f zero h = statement_fits s f.0
fit_at (s ∷ ss) f (suc k) h = fit_at ss f.1 k (omega (arith, h))

fit_of : (ss : List MonthStatement) → ((k : ℕ) → k < length ss → StatementFits (get_or ss k blank_statement)) → Sounds ss
fit_of [] f = tt
fit_of (s ∷ ss) f = (fits_statement s (f 0 (omega arith)), fit_of ss (λ k h. f (suc k) (omega (arith, h))))

-- Accepted

refused_number : (p : ℕ) → (year_refused 10 p).number ≡ 10
unfolding year_refused
refused_number p = refl

taken_number : (ss : List MonthStatement) → (year_taken ss).number ≡ 0
unfolding year_taken
taken_number ss = refl

-- an accepted year has taken all its statements
pub accepted_all : (ss : List MonthStatement) → (year_of ss).number ≡ 0 → first_bad_statement [] ss ≡ length ss
accepted_all ss none = go (dec_lt (first_bad_statement [] ss) (length ss))
  where
    go : Dec (first_bad_statement [] ss < length ss) → first_bad_statement [] ss ≡ length ss
    go (yes h) =
        let ten = ap (λ (y : Year). y.number) (refused_is ss h) ∙ refused_number (first_bad_statement [] ss) in
        absurd (omega (arith, ten, none))
    go (no h) = omega (arith, h, bad_le [] ss)

pub all_accepted : (ss : List MonthStatement) → first_bad_statement [] ss ≡ length ss → (year_of ss).number ≡ 0
all_accepted ss all = ap (λ (y : Year). y.number) (taken_is ss all) ∙ taken_number ss

-- STATEMENTS ARE ACCEPTED EXACTLY where each is within the limits, all are of one year, and their months rise
pub accepted_exactly : (ss : List MonthStatement) → ((year_of ss).number ≡ 0) ↔ Acceptable ss
unfolding last_month
accepted_exactly ss = (to, from)
  where
    to : (year_of ss).number ≡ 0 → Acceptable ss
    to none =
        let t = in_turn [] ss (accepted_all ss none) in
        record {
          fit = fit_at ss (turn_sounds [] ss t);
          year = year_at (year_in ss) ss (turn_year [] ss t);
          months = rises_pairs 0 ss (turn_rises [] ss t);
        }

    from : Acceptable ss → (year_of ss).number ≡ 0
    from a =
        all_accepted ss (turn_in [] ss (all_turn ss (rises_of 0 ss (λ k h. (a.fit k h).month.0) a.months) (year_of_lem (year_in ss) ss a.year) (fit_of ss a.fit)))

-- NO THIRTEENTH: an accepted year has at most twelve statements
pub no_thirteenth : (ss : List MonthStatement) → (year_of ss).number ≡ 0 → length ss ≤ most_statements
unfolding last_month
no_thirteenth ss none =
    let t = in_turn [] ss (accepted_all ss none) in
    omega (arith, rises_few 0 ss (turn_rises [] ss t) (turn_sounds [] ss t) (omega arith))
