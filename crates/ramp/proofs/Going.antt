-- An hour as it goes: what one more action does to it, and how large its sums can be. Assumes nothing.
use mathlib.Core.Path.{◌≡◌, refl, sym, ◌∙◌, ap}
use mathlib.Core.Bool.{Bool, true, false, cond, ◌&&◌}
use mathlib.Core.List.{List, [], ◌∷◌, ◌++◌, append-nil}
use Prim.Native.Nat.{ℕ, ◌+◌, ◌*◌, ◌^◌, ◌≤◌, ◌<◌}
use native.Mathlib.Omega.{arith}
use lib.Dec.{ltb}
use lib.ListN.{length, length-append}
use borrow.Author.Tests.{ltb-true, eq-eqb, ne_eqb}
use Rattle.le.proofs.Tests.{each}
use Rattle.ramp.specs.declared.Action.{Action}
use Rattle.ramp.specs.declared.so_far.HourSoFar.{HourSoFar}
use Rattle.ramp.specs.Ramping.{most_actions, most_power, most_delay, most_ramp_rate, most_over_standard, is_right_way, move_of, error_of, right_way, action_is_sound, first_standard, first_unsound}
use Rattle.ramp.specs.Outcomes.{ActionWithin}
use Rattle.ramp.specs.Inner.{add_up, real_of, delay_of, standard_with, takes_action, SoFar, Goes}
use Rattle.ramp.proofs.Within.{AllWithin, right_within, standard_some}
use Rattle.ramp.proofs.Bounds.{move_most, error_most, right_le}
use Rattle.ramp.proofs.Sound.{within_of, unsound_behind, all_within}

-- Sums

-- the right-way actions of two lists, one behind the other
pub right_append : (actions more : List Action) → right_way (actions ++ more) ≡ right_way actions ++ right_way more
unfolding right_way
right_append [] more = refl
right_append (a ∷ actions) more = go (is_right_way a) (right_append actions more)
  where
    go : (t : Bool) → right_way (actions ++ more) ≡ right_way actions ++ right_way more
        → cond t (a ∷ right_way (actions ++ more)) (right_way (actions ++ more)) ≡ cond t (a ∷ right_way actions) (right_way actions) ++ right_way more
    go true e = ap (λ (l : List Action). a ∷ l) e
    go false e = e

module _ (f : Action → ℕ) where
  pub up_append : (actions more : List Action) → add_up f (actions ++ more) ≡ add_up f actions + add_up f more
  unfolding add_up
  up_append [] more = omega arith
  up_append (a ∷ actions) more = omega (arith, up_append actions more)

  -- no more than so much for each
  pub up_most : (standard most : ℕ) → ((a : Action) → ActionWithin standard a → f a ≤ most) → (actions : List Action) → AllWithin standard actions
      → add_up f actions ≤ most * length actions
  unfolding add_up
  up_most standard most h [] w = omega arith
  up_most standard most h (a ∷ actions) w = omega (arith, h a w.0, up_most standard most h actions w.1)

-- One more action

module _ (actions : List Action) (a : Action) where
  length_more : length (actions ++ a ∷ []) ≡ length actions + 1
  length_more = length-append actions (a ∷ [])

  -- a right-way action adds its own number, another nothing
  added_right : is_right_way a ≡ true → (f : Action → ℕ) → add_up f (right_way (actions ++ a ∷ [])) ≡ add_up f (right_way actions) + f a
  unfolding right_way add_up
  added_right e f = rw (right_append actions (a ∷ []), e, up_append f (right_way actions) (a ∷ [])) (omega arith)

  added_wrong : is_right_way a ≡ false → right_way (actions ++ a ∷ []) ≡ right_way actions
  unfolding right_way
  added_wrong e = right_append actions (a ∷ []) ∙ rw e (append-nil (right_way actions))

  counted_right : is_right_way a ≡ true → length (right_way (actions ++ a ∷ [])) ≡ length (right_way actions) + 1
  unfolding right_way
  counted_right e = rw (right_append actions (a ∷ []), e) (length-append (right_way actions) (a ∷ []))

-- the standard rate of an hour with one more action, and with more behind it
pub standard_is : (actions : List Action) (a : Action) (more : List Action) (h : HourSoFar) → SoFar actions h → standard_with h a ≡ first_standard (actions ++ a ∷ more)
unfolding standard_with first_standard
standard_is [] a more h s = rw (eq-eqb h.count 0 s.count) refl
standard_is (b ∷ actions) a more h s = rw (ne_eqb h.count 0 (λ e. omega (arith, s.count))) s.standard

-- the actions so far keep within the limits
pub so_far_within : (actions more : List Action) → first_unsound (first_standard actions) actions ≡ length actions → AllWithin (first_standard (actions ++ more)) actions
unfolding first_standard
so_far_within [] more e = tt
so_far_within (a ∷ actions) more e = all_within a.standard (a ∷ actions) e

module _ (actions : List Action) (a : Action) (h : HourSoFar) (s : SoFar actions h) where
  -- whether one more is taken: there is room, and it is sound
  pub takes_is : (more : List Action) → takes_action h a ≡ (ltb (length actions) most_actions && action_is_sound (first_standard (actions ++ a ∷ more)) a)
  unfolding takes_action
  takes_is more = rw (standard_is actions a more h s, s.count) refl

  module _ (t : takes_action h a ≡ true) where
    both : (length actions < most_actions) × (action_is_sound (first_standard (actions ++ a ∷ [])) a ≡ true)
    both =
        let p = each (ltb (length actions) most_actions) (action_is_sound (first_standard (actions ++ a ∷ [])) a ∷ []) (sym (takes_is []) ∙ t) in
        (ltb-true _ _ p.0, p.1.0)

    pub taken_within : ActionWithin (first_standard (actions ++ a ∷ [])) a
    taken_within = within_of _ a both.1

    pub taken_room : length actions < most_actions
    taken_room = both.0

    sound_more : first_unsound (first_standard (actions ++ a ∷ [])) (actions ++ a ∷ []) ≡ length (actions ++ a ∷ [])
    unfolding first_unsound
    sound_more =
        unsound_behind (first_standard (actions ++ a ∷ [])) actions (a ∷ []) (so_far_within actions (a ∷ []) s.sound)
        ∙ rw (both.1, length_more actions a) refl

    -- the hour after a wrong-way action, and after a right-way one
    pub goes_wrong : is_right_way a ≡ false
        → SoFar (actions ++ a ∷ []) (record { count = h.count + 1; right = h.right; distance = h.distance; error = h.error; real = h.real; delay = h.delay; standard = a.standard })
    goes_wrong e =
        let w : right_way (actions ++ a ∷ []) ≡ right_way actions = added_wrong actions a e in
        record {
          most = omega (arith, both.0, length_more actions a);
          sound = sound_more;
          count = omega (arith, s.count, length_more actions a);
          standard = taken_within.one_rate;
          right = rw w s.right;
          distance = rw w s.distance;
          error = rw w s.error;
          real = rw w s.real;
          delay = rw w s.delay;
        }

    pub goes_right : is_right_way a ≡ true
        → SoFar (actions ++ a ∷ []) (record {
          count = h.count + 1;
          right = h.right + 1;
          distance = h.distance + move_of a;
          error = h.error + error_of a;
          real = h.real + a.real;
          delay = h.delay + a.delay;
          standard = a.standard;
        })
    goes_right e =
        record {
          most = omega (arith, both.0, length_more actions a);
          sound = sound_more;
          count = omega (arith, s.count, length_more actions a);
          standard = taken_within.one_rate;
          right = ap (λ (n : ℕ). n + 1) s.right ∙ sym (counted_right actions a e);
          distance = ap (λ (n : ℕ). n + move_of a) s.distance ∙ sym (added_right actions a e move_of);
          error = ap (λ (n : ℕ). n + error_of a) s.error ∙ sym (added_right actions a e error_of);
          real = ap (λ (n : ℕ). n + a.real) s.real ∙ sym (added_right actions a e real_of);
          delay = ap (λ (n : ℕ). n + a.delay) s.delay ∙ sym (added_right actions a e delay_of);
        }

-- How large the sums can be

pub record Bounds (h : HourSoFar) : Type 0 where
  pub count : h.count ≤ most_actions
  pub right : h.right ≤ most_actions
  pub distance : h.distance ≤ most_power * h.right
  pub error : h.error ≤ most_power * h.right
  pub real : h.real ≤ most_ramp_rate * h.right
  pub over : h.real ≤ most_over_standard * h.standard * h.right
  pub delay : h.delay ≤ most_delay * h.right
  pub standard : h.standard ≤ most_ramp_rate
  pub some : 0 < h.right → 0 < h.standard

standard_most : (actions : List Action) → AllWithin (first_standard actions) actions → first_standard actions ≤ most_ramp_rate
unfolding first_standard
standard_most [] w = omega arith
standard_most (a ∷ actions) w = w.0.rates.1

module _ (h : HourSoFar) (goes : Goes h) where
  pub bounds : Bounds h
  bounds =
      let actions = goes.0 in
      let s = goes.1 in
      let standard = first_standard actions in
      let w : AllWithin standard actions = all_within standard actions s.sound in
      let r : AllWithin standard (right_way actions) = right_within standard actions w in
      record {
        count = omega (arith, s.count, s.most);
        right = omega (arith, s.right, s.most, right_le actions);
        distance = rw (s.distance, s.right) (up_most move_of standard most_power (move_most standard) (right_way actions) r);
        error = rw (s.error, s.right) (up_most error_of standard most_power (error_most standard) (right_way actions) r);
        real = rw (s.real, s.right) (up_most real_of standard most_ramp_rate (λ a v. v.rates.0) (right_way actions) r);
        over = rw (s.real, s.right, s.standard)
            (up_most real_of standard (most_over_standard * standard) (λ a v. omega (arith, v.real, ap (λ (n : ℕ). most_over_standard * n) v.one_rate)) (right_way actions) r);
        delay = rw (s.delay, s.right) (up_most delay_of standard most_delay (λ a v. v.delay) (right_way actions) r);
        standard = rw s.standard (standard_most actions w);
        some = λ l. rw s.standard (standard_some standard (right_way actions) r (omega (arith, s.right)));
      }

  -- one more action's numbers fit
  pub one_more : (a : Action) → takes_action h a ≡ true
      → (h.right ≤ most_actions) × (h.distance + move_of a < 2 ^ 32) × (h.error + error_of a < 2 ^ 32) × (h.real + a.real < 2 ^ 32) × (h.delay + a.delay < 2 ^ 32)
  one_more a t =
      let w = taken_within goes.0 a h goes.1 t in
      let m = move_most _ a w in
      let e = error_most _ a w in
      (bounds.right, omega (arith, bounds), omega (arith, bounds), omega (arith, bounds, w.rates.0), omega (arith, bounds, w.delay))
