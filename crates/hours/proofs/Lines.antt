-- One line more behind lines that were judged: what it does to the hours, and to the first bad line. Assumes nothing.
use Rattle.std.proofs.Common.{◌≡◌, ℕ, zero, suc, ◌+◌, ◌<◌, Bool, true, false, cond, eqb, List, [], ◌∷◌, ◌++◌, length, set, replicate, sym, refl, ap, ◌∙◌, append-nil, zero-add, arith, eq-eqb, ne_eqb}
use lib.Seq.{append_snoc}
use Rattle.units.specs.declared.Grains.{Grains}
use Rattle.ramp.specs.declared.Action.{Action}
use Rattle.ramp.specs.Ramping.{hour_grains}
use Rattle.hours.specs.declared.HourLine.{HourLine}
use Rattle.hours.specs.Hours.{of_hour, last_hour, hour_line_is_sound, first_bad_line, pays_from, actions_from}

-- The actions of an hour

-- one line more is the last action of its hour, and none of another's
pub of_hour_more : (ls : List HourLine) (l : HourLine) (hour : ℕ)
    → of_hour hour (ls ++ l ∷ []) ≡ cond (eqb l.hour hour) (of_hour hour ls ++ l.action ∷ []) (of_hour hour ls)
unfolding of_hour
of_hour_more [] l hour = refl
of_hour_more (k ∷ ls) l hour = rw (of_hour_more ls l hour) (go (eqb k.hour hour) (eqb l.hour hour) (of_hour hour ls))
  where
    go : (t u : Bool) (xs : List Action)
        → cond t (k.action ∷ cond u (xs ++ l.action ∷ []) xs) (cond u (xs ++ l.action ∷ []) xs) ≡ cond u (cond t (k.action ∷ xs) xs ++ l.action ∷ []) (cond t (k.action ∷ xs) xs)
    go true true xs = refl
    go true false xs = refl
    go false true xs = refl
    go false false xs = refl

module _ (ls : List HourLine) (l : HourLine) where
  pub of_its_hour : of_hour l.hour (ls ++ l ∷ []) ≡ of_hour l.hour ls ++ l.action ∷ []
  of_its_hour = of_hour_more ls l l.hour ∙ rw (eq-eqb l.hour l.hour refl)

  pub of_another : (hour : ℕ) → (l.hour ≡ hour → ⊥) → of_hour hour (ls ++ l ∷ []) ≡ of_hour hour ls
  of_another hour ne = of_hour_more ls l hour ∙ rw (ne_eqb l.hour hour ne)

pub last_more : (ls : List HourLine) (l : HourLine) → last_hour (ls ++ l ∷ []) ≡ l.hour
unfolding last_hour
last_more [] l = refl
last_more (k ∷ []) l = refl
last_more (k ∷ j ∷ ls) l = last_more (j ∷ ls) l

-- The first bad line

module _ (hours : ℕ) where
  -- behind sound lines it is among the others
  pub bad_behind : (before xs ys : List HourLine) → first_bad_line hours before xs ≡ length xs
      → first_bad_line hours before (xs ++ ys) ≡ length xs + first_bad_line hours (before ++ xs) ys
  unfolding first_bad_line
  bad_behind before [] ys h =
      ap (λ (b : List HourLine). first_bad_line hours b ys) (sym (append-nil before)) ∙ sym (zero-add (first_bad_line hours (before ++ []) ys))
  bad_behind before (x ∷ xs) ys h = go (hour_line_is_sound hours before x) h (bad_behind (before ++ x ∷ []) xs ys)
    where
      go : (t : Bool) → cond t (suc (first_bad_line hours (before ++ x ∷ []) xs)) 0 ≡ suc (length xs)
          → (first_bad_line hours (before ++ x ∷ []) xs ≡ length xs → first_bad_line hours (before ++ x ∷ []) (xs ++ ys) ≡ length xs + first_bad_line hours ((before ++ x ∷ []) ++ xs) ys)
          → cond t (suc (first_bad_line hours (before ++ x ∷ []) (xs ++ ys))) 0 ≡ suc (length xs) + first_bad_line hours (before ++ x ∷ xs) ys
      go false k rec = absurd (omega (arith, k))
      go true k rec =
          let e = rec (omega (arith, k)) ∙ ap (λ (b : List HourLine). length xs + first_bad_line hours b ys) (append_snoc before x xs) in
          omega (arith, e)

-- The tables of hours

-- of so many hours from an hour on, what is said of the actions of each
pub table_from : {A : Type 0} → (List Action → A) → List HourLine → ℕ → ℕ → List A
table_from f ls hour zero = []
table_from f ls hour (suc n) = f (of_hour hour ls) ∷ table_from f ls (suc hour) n

abbrev pub paid_for : ℕ → List Action → Grains
paid_for N actions = record { 0 = hour_grains N actions }

pub pays_table : (N : ℕ) (ls : List HourLine) (hour n : ℕ) → pays_from N ls hour n ≡ table_from (paid_for N) ls hour n
unfolding pays_from table_from
pays_table N ls hour zero = refl
pays_table N ls hour (suc n) = ap (λ (gs : List Grains). paid_for N (of_hour hour ls) ∷ gs) (pays_table N ls (suc hour) n)

pub actions_table : (ls : List HourLine) (hour n : ℕ) → actions_from ls hour n ≡ table_from (λ actions. length actions) ls hour n
unfolding actions_from table_from
actions_table ls hour zero = refl
actions_table ls hour (suc n) = ap (λ (ns : List ℕ). length (of_hour hour ls) ∷ ns) (actions_table ls (suc hour) n)

module _ {A : Type 0} (f : List Action → A) where
  -- without a line all are alike
  pub table_none : (hour n : ℕ) → table_from f [] hour n ≡ replicate n (f [])
  unfolding table_from of_hour
  table_none hour zero = refl
  table_none hour (suc n) = ap (λ (xs : List A). f [] ∷ xs) (table_none (suc hour) n)

  module _ (ls : List HourLine) (l : HourLine) where
    -- hours past a line's are as they were
    table_past : (hour n : ℕ) → l.hour < hour → table_from f (ls ++ l ∷ []) hour n ≡ table_from f ls hour n
    unfolding table_from
    table_past hour zero h = refl
    table_past hour (suc n) h = λ i. f (of_another ls l hour (λ e. omega arith) i) ∷ table_past (suc hour) n (omega arith) i

    -- a line changes its own hour alone
    pub table_more : (hour n k : ℕ) → hour + k ≡ l.hour → table_from f (ls ++ l ∷ []) hour n ≡ set (table_from f ls hour n) k (f (of_hour l.hour ls ++ l.action ∷ []))
    unfolding table_from
    table_more hour zero k e = refl
    table_more hour (suc n) zero e =
        let is : hour ≡ l.hour = omega (arith, e) in
        λ i. f ((ap (λ (x : ℕ). of_hour x (ls ++ l ∷ [])) is ∙ of_its_hour ls l) i) ∷ table_past (suc hour) n (omega (arith, is)) i
    table_more hour (suc n) (suc k) e =
        λ i. f (of_another ls l hour (λ h. omega (arith, e, h)) i) ∷ table_more (suc hour) n k (omega (arith, e)) i
