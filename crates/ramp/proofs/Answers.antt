-- How an hour's answer is come by: refused, stopped at an action, or paid. Assumes nothing.
use mathlib.Core.Path.{◌≡◌, refl, sym, ◌∙◌, ap, subst}
use mathlib.Core.Bool.{Bool, true, false, cond, ◌&&◌}
use mathlib.Core.List.{List, [], ◌∷◌, ◌++◌}
use Prim.Native.Nat.{ℕ, zero, suc, ◌+◌, ◌-◌, ◌*◌, ◌/◌, ◌%◌, ◌≤◌, ◌<◌, min}
use native.Mathlib.Omega.{arith}
use lib.Dec.{ltb}
use lib.ListN.{length, length-append}
use borrow.Author.Tests.{eq-eqb, ne_eqb, lt-ltb, ltb-false}
use Rattle.pay.specs.declared.Member.{Member}
use Rattle.pay.specs.Member.{member_is_sound}
use Rattle.ramp.specs.declared.Action.{Action}
use Rattle.ramp.specs.declared.so_far.HourSoFar.{HourSoFar}
use Rattle.ramp.specs.Ramping.{most_actions, is_ramping, action_is_sound, first_standard, first_unsound, first_bad_action, hour_grains, hour_refused, hour_paid, ramping}
use Rattle.ramp.specs.Bytes.{action_size, action_at, actions_from, actions_in, ramping_bytes}
use Rattle.ramp.specs.Inner.{takes_action, SoFar}
use Rattle.ramp.proofs.Sound.{unsound_behind, unsound_le, all_within, bad_none}
use Rattle.ramp.proofs.Accepted.{hour_pays}
use Rattle.ramp.proofs.Going.{so_far_within, takes_is}

-- Where an hour stops

-- the action that is not taken is the first bad one, whatever stands behind it
pub stops : (actions : List Action) (a : Action) (h : HourSoFar) → SoFar actions h → takes_action h a ≡ false → (more : List Action)
    → first_bad_action (actions ++ a ∷ more) ≡ length actions
unfolding first_bad_action first_unsound
stops actions a h s t more =
    ap (λ (n : ℕ). min n most_actions) (unsound_behind (first_standard (actions ++ a ∷ more)) actions (a ∷ more) (so_far_within actions (a ∷ more) s.sound))
    ∙ go (ltb (length actions) most_actions) refl (action_is_sound (first_standard (actions ++ a ∷ more)) a) (sym (takes_is actions a h s more) ∙ t)
  where
    go : (u : Bool) → ltb (length actions) most_actions ≡ u → (v : Bool) → (u && v) ≡ false
        → min (length actions + cond v (suc (first_unsound (first_standard (actions ++ a ∷ more)) more)) 0) most_actions ≡ length actions
    go true e true k = absurd (let z : ◌≡◌ {A = ℕ} 0 1 = cc in omega arith)
    go true e false k = omega (arith, s.most)
    go false e v k = omega (arith, s.most, ltb-false (length actions) most_actions e)

-- where every action is taken none is bad
pub all_taken_lem : (actions : List Action) (h : HourSoFar) → SoFar actions h → first_bad_action actions ≡ length actions
all_taken_lem actions h s = bad_none actions s.most (all_within (first_standard actions) actions s.sound)

-- The answer

module _ (m : Member) (actions : List Action) where
  pub bad_line_is : member_is_sound m ≡ false → ramping m actions ≡ hour_refused 10 0
  unfolding ramping
  bad_line_is e = rw e refl

  pub other_kind_is : member_is_sound m ≡ true → is_ramping m.kind ≡ false → ramping m actions ≡ hour_refused 12 0
  unfolding ramping
  other_kind_is e k = rw (e, k) refl

  pub bad_action_is : member_is_sound m ≡ true → is_ramping m.kind ≡ true → first_bad_action actions < length actions → ramping m actions ≡ hour_refused 10 (first_bad_action actions)
  unfolding ramping
  bad_action_is e k l = rw (e, k, lt-ltb (first_bad_action actions) (length actions) l) refl

-- of an hour as it goes: it stops at the action that is not taken, and pays where every action is
module _ (m : Member) (actions : List Action) (h : HourSoFar) (s : SoFar actions h) (e : member_is_sound m ≡ true) (k : is_ramping m.kind ≡ true) where
  pub stopped_answer : (a : Action) → takes_action h a ≡ false → (more : List Action) → ramping m (actions ++ a ∷ more) ≡ hour_refused 10 (length actions)
  stopped_answer a t more =
      let p = stops actions a h s t more in
      bad_action_is m (actions ++ a ∷ more) e k (omega (arith, p, length-append actions (a ∷ more))) ∙ ap (hour_refused 10) p

  pub taken_answer : ramping m actions ≡ hour_paid (hour_grains m.rated.0 actions)
  taken_answer = hour_pays m actions (record { line = e; kind = k; few = s.most; within = all_within (first_standard actions) actions s.sound })

module _ (m : Member) (bytes : List ℕ) where
  pub odd_is : (length bytes % action_size ≡ 0 → ⊥) → ramping_bytes m bytes ≡ hour_refused 1 0
  unfolding ramping_bytes
  odd_is n = rw (ne_eqb (length bytes % action_size) 0 n) refl

  pub whole_is : length bytes % action_size ≡ 0 → ramping_bytes m bytes ≡ ramping m (actions_in bytes)
  unfolding ramping_bytes
  whole_is e = rw (eq-eqb (length bytes % action_size) 0 e) refl

-- Actions in bytes

module _ (s : List ℕ) where
  pub length_from : (at n : ℕ) → length (actions_from s at n) ≡ n
  unfolding actions_from
  length_from at zero = refl
  length_from at (suc n) = ap suc (length_from (at + action_size) n)

  pub from_append : (at i n : ℕ) → actions_from s at (i + n) ≡ actions_from s at i ++ actions_from s (at + action_size * i) n
  unfolding actions_from
  from_append at zero n = (λ j. actions_from s (p j) (q j))
    where
      p : at ≡ at + action_size * zero
      p = omega arith

      q : zero + n ≡ n
      q = omega arith
  from_append at (suc i) n =
      let p : suc i + n ≡ suc (i + n) = omega arith in
      let q : at + action_size + action_size * i ≡ at + action_size * suc i = omega arith in
      ap (actions_from s at) p ∙ ap (λ (l : List Action). action_at s at ∷ l) (from_append (at + action_size) i n)
      ∙ ap (λ (k : ℕ). action_at s at ∷ (actions_from s (at + action_size) i ++ actions_from s k n)) q

  from_next : (i n : ℕ) → actions_from s 0 (i + suc n) ≡ actions_from s 0 i ++ action_at s (action_size * i) ∷ actions_from s (action_size * i + action_size) n
  unfolding actions_from
  from_next i n = from_append 0 i (suc n) ∙ ap (λ (k : ℕ). actions_from s 0 i ++ actions_from s k (suc n)) (omega arith)

  -- One turn over them

  -- r is what the actions before the first bad one leave
  abbrev pub Taken : ℕ → HourSoFar → Type 0
  Taken count r = SoFar (actions_from s 0 r.count) r × (r.count ≡ first_bad_action (actions_from s 0 count))

  module _ (count i : ℕ) (h : HourSoFar) (so : SoFar (actions_from s 0 i) h) where
    here : h.count ≡ i
    here = so.count ∙ length_from 0 i

    so_here : SoFar (actions_from s 0 h.count) h
    so_here = subst (λ (n : ℕ). SoFar (actions_from s 0 n) h) (sym here) so

    pub at_end : i ≡ count → Taken count h
    at_end e = (so_here, so.count ∙ sym (all_taken_lem (actions_from s 0 i) h so) ∙ ap (λ (n : ℕ). first_bad_action (actions_from s 0 n)) e)

    pub at_stop : i < count → takes_action h (action_at s (action_size * i)) ≡ false → Taken count h
    at_stop l t =
        let k : ℕ = count - suc i in
        let e : count ≡ i + suc k = omega arith in
        (so_here, so.count ∙ sym (ap (λ (n : ℕ). first_bad_action (actions_from s 0 n)) e ∙ ap first_bad_action (from_next i k) ∙ stops (actions_from s 0 i) _ h so t _))

    pub go_on : (r : HourSoFar) → ((actions : List Action) → SoFar actions h → SoFar (actions ++ action_at s (action_size * i) ∷ []) r) → SoFar (actions_from s 0 (i + 1)) r
    unfolding actions_from
    go_on r f = rw (from_next i 0) (f (actions_from s 0 i) so)

-- The answer from what was taken

module _ (m : Member) (bytes : List ℕ) (whole : length bytes % action_size ≡ 0) (e : member_is_sound m ≡ true) (k : is_ramping m.kind ≡ true)
    (h : HourSoFar) (t : Taken bytes (length bytes / action_size) h) where
  abbrev count : ℕ
  count = length bytes / action_size

  long : length (actions_in bytes) ≡ count
  unfolding actions_in
  long = length_from bytes 0 count

  first : h.count ≡ first_bad_action (actions_in bytes)
  unfolding actions_in
  first = t.1

  pub stopped-is : h.count < count → hour_refused 10 h.count ≡ ramping_bytes m bytes
  stopped-is l = ap (hour_refused 10) first ∙ sym (whole_is m bytes whole ∙ bad_action_is m (actions_in bytes) e k (omega (arith, first, long)))

  pub through : count ≤ h.count → SoFar (actions_in bytes) h
  unfolding actions_in first_bad_action
  through l =
      let is : h.count ≡ count = omega (arith, first, long, unsound_le (first_standard (actions_in bytes)) (actions_in bytes)) in
      subst (λ (n : ℕ). SoFar (actions_from bytes 0 n) h) is t.0

  pub through-is : count ≤ h.count → (grains : ℕ) → ((actions : List Action) → SoFar actions h → grains ≡ hour_grains m.rated.0 actions) → hour_paid grains ≡ ramping_bytes m bytes
  through-is l grains g =
      ap hour_paid (g (actions_in bytes) (through l)) ∙ sym (whole_is m bytes whole ∙ taken_answer m (actions_in bytes) h (through l) e k)
