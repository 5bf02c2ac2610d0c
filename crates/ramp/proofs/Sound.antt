-- An action's test and its limits as facts are one; how the first bad action of an hour is found. Assumes nothing.
use mathlib.Core.Path.{◌≡◌, refl, sym, ◌∙◌, ap}
use mathlib.Core.Bool.{Bool, true, false, not, cond, true≢false}
use mathlib.Core.List.{List, [], ◌∷◌, ◌++◌}
use Prim.Native.Nat.{ℕ, suc, ◌+◌, ◌*◌, ◌≤◌}
use native.Mathlib.Omega.{arith}
use lib.Dec.{eqb, leb}
use lib.ListN.{length}
use borrow.Author.Tests.{eq-eqb, ne_eqb, eqb-true, eqb-false, le-leb, leb-true}
use Rattle.le.proofs.Tests.{each, all}
use Rattle.ramp.specs.declared.Action.{Action}
use Rattle.ramp.specs.Ramping.{most_actions, most_power, most_delay, most_ramp_rate, most_over_standard, action_is_sound, first_standard, first_unsound, first_bad_action}
use Rattle.ramp.specs.Outcomes.{ActionWithin}
use Rattle.ramp.proofs.Within.{AllWithin}

-- One action

pub not_of : (t : Bool) → not t ≡ true → t ≡ false
not_of true h = absurd (true≢false (sym h))
not_of false h = refl

pub not_not : (t : Bool) → not t ≡ false → t ≡ true
not_not true h = refl
not_not false h = absurd (true≢false h)

of_not : {t : Bool} → t ≡ false → not t ≡ true
of_not e = rw e

module _ (standard : ℕ) (a : Action) where
  abbrev tests : List Bool
  tests =
      eqb a.standard standard ∷ not (eqb a.command.0 a.start.0) ∷ leb a.start.0 most_power ∷ leb a.end.0 most_power
      ∷ leb a.command.0 most_power ∷ leb a.delay most_delay ∷ leb a.real most_ramp_rate ∷ leb a.standard most_ramp_rate
      ∷ leb a.real (most_over_standard * a.standard) ∷ []

  pub within_of : action_is_sound standard a ≡ true → ActionWithin standard a
  unfolding action_is_sound
  within_of h =
      let p = each (not (eqb a.standard 0)) tests h in
      let q = p.1.1.1 in
      record {
        some_rate = eqb-false _ _ (not_of (eqb a.standard 0) p.0);
        one_rate = eqb-true _ _ p.1.0;
        commanded = eqb-false _ _ (not_of (eqb a.command.0 a.start.0) p.1.1.0);
        powers = (leb-true _ _ q.0, leb-true _ _ q.1.0, leb-true _ _ q.1.1.0);
        delay = leb-true _ _ q.1.1.1.0;
        rates = (leb-true _ _ q.1.1.1.1.0, leb-true _ _ q.1.1.1.1.1.0);
        real = leb-true _ _ q.1.1.1.1.1.1.0;
      }

  pub of_within : ActionWithin standard a → action_is_sound standard a ≡ true
  unfolding action_is_sound
  of_within w =
      all (not (eqb a.standard 0)) tests (
        of_not (ne_eqb _ _ w.some_rate),
        (
          eq-eqb _ _ w.one_rate,
          (
            of_not (ne_eqb _ _ w.commanded),
            (
              le-leb _ _ w.powers.0,
              (
                le-leb _ _ w.powers.1,
                (
                  le-leb _ _ w.powers.2,
                  (le-leb _ _ w.delay, (le-leb _ _ w.rates.0, (le-leb _ _ w.rates.1, (le-leb _ _ w.real, tt)))),
                ),
              ),
            ),
          ),
        ),
      )

-- Several

-- the first that is not sound stands behind those that are
pub unsound_behind : (standard : ℕ) (actions more : List Action) → AllWithin standard actions
    → first_unsound standard (actions ++ more) ≡ length actions + first_unsound standard more
unfolding first_unsound
unsound_behind standard [] more w = omega arith
unsound_behind standard (a ∷ actions) more w = rw (of_within standard a w.0) (ap suc (unsound_behind standard actions more w.1) ∙ omega arith)

-- the first that is not sound stands no further than their end
pub unsound_le : (standard : ℕ) (actions : List Action) → first_unsound standard actions ≤ length actions
unfolding first_unsound
unsound_le standard [] = omega arith
unsound_le standard (a ∷ actions) = go (action_is_sound standard a) (unsound_le standard actions)
  where
    go : (t : Bool) → first_unsound standard actions ≤ length actions → cond t (suc (first_unsound standard actions)) 0 ≤ suc (length actions)
    go true h = omega arith
    go false h = omega arith

pub unsound_none : (standard : ℕ) (actions : List Action) → AllWithin standard actions → first_unsound standard actions ≡ length actions
unfolding first_unsound
unsound_none standard [] w = refl
unsound_none standard (a ∷ actions) w = rw (of_within standard a w.0) (ap suc (unsound_none standard actions w.1))

pub all_within : (standard : ℕ) (actions : List Action) → first_unsound standard actions ≡ length actions → AllWithin standard actions
unfolding first_unsound
all_within standard [] e = tt
all_within standard (a ∷ actions) e = go (all_within standard actions) (action_is_sound standard a) refl e
  where
    go : (first_unsound standard actions ≡ length actions → AllWithin standard actions) → (t : Bool) → action_is_sound standard a ≡ t
        → cond t (suc (first_unsound standard actions)) 0 ≡ suc (length actions) → ActionWithin standard a × AllWithin standard actions
    go rest true s e = (within_of standard a s, rest (omega arith))
    go rest false s e = absurd (omega arith)

-- where none is bad: at most 60, each within the limits
pub none_bad : (actions : List Action) → length actions ≤ first_bad_action actions → (length actions ≤ most_actions) × AllWithin (first_standard actions) actions
unfolding first_bad_action
none_bad actions h =
    let le = unsound_le (first_standard actions) actions in
    (omega arith, all_within (first_standard actions) actions (omega arith))

pub bad_none : (actions : List Action) → length actions ≤ most_actions → AllWithin (first_standard actions) actions → first_bad_action actions ≡ length actions
unfolding first_bad_action
bad_none actions few w = omega (arith, unsound_none (first_standard actions) actions w)
