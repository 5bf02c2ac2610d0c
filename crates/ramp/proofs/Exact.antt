-- An hour's answer is determined; each refusal comes exactly under its condition, of actions and of bytes. Assumes nothing.
use mathlib.Core.Path.{◌≡◌, refl, sym, ◌∙◌, ap}
use mathlib.Core.Bool.{Bool, true, false, cond, true≢false}
use mathlib.Core.List.{List, [], ◌∷◌}
use mathlib.Core.Logic.{inl, inr, ⊎_elim, ◌↔◌}
use Prim.Native.Nat.{ℕ, zero, suc, ◌%◌, ◌≤◌, ◌<◌}
use native.Mathlib.Nat.{not-suc-le-zero}
use native.Mathlib.Decide.{dec_lt, ℕ_discrete}
use native.Mathlib.Omega.{arith}
use lib.ListN.{length, get_or}
use borrow.Author.Tests.{ne_eqb}
use Rattle.le.proofs.Tests.{fails, refuted}
use Rattle.pay.specs.declared.Member.{Member}
use Rattle.pay.specs.Kinds.{coal, gas, hydro}
use Rattle.pay.specs.Member.{member_is_sound, MemberWithin}
use Rattle.pay.proofs.Within.{line_of, of_line_lem}
use Rattle.ramp.specs.declared.Action.{Action}
use Rattle.ramp.specs.declared.Hour.{Hour}
use Rattle.ramp.specs.Ramping.{most_actions, is_ramping, action_is_sound, first_standard, no_action, first_unsound, first_bad_action, hour_refused, ramping}
use Rattle.ramp.specs.Bytes.{action_size, actions_in, ramping_bytes}
use Rattle.ramp.specs.Outcomes.{Ordinary, ActionWithin, ActionsWithin, MayRamp, HourOutcome, bad_line_lem, other_kind, bad_action, one_more, paid, HourBytesOutcome, no_actions, of_actions}
use Rattle.ramp.proofs.Sound.{within_of, of_within, unsound_le, all_within}
use Rattle.ramp.proofs.Accepted.{Accepted, hour_pays}
use Rattle.ramp.proofs.Promises.{accepted_or_nothing}
use Rattle.ramp.proofs.Answers.{bad_line_is, other_kind_is, bad_action_is, odd_is, whole_is}

-- Two answers that the contract of `ramping_bytes` allows are one.
pub hour_determined : (m : Member) (bytes : List ℕ) (r s : Hour) → r ≡ ramping_bytes m bytes → s ≡ ramping_bytes m bytes → r ≡ s
hour_determined m bytes r s p q = p ∙ sym q

-- A REFUSED HOUR PAYS NOTHING
pub refused_nothing : (m : Member) (actions : List Action) → ((ramping m actions).number ≡ 0 → ⊥) → (ramping m actions).grains.0 ≡ 0
refused_nothing m actions n = ⊎_elim (λ z. absurd (n z)) (λ e. e) (accepted_or_nothing m actions)

-- The kind

ordinary_of : (m : Member) → is_ramping m.kind ≡ true → Ordinary m
unfolding is_ramping
ordinary_of m h = go (ℕ_discrete m.kind coal) (ℕ_discrete m.kind gas) (ℕ_discrete m.kind hydro)
  where
    go : Dec (m.kind ≡ coal) → Dec (m.kind ≡ gas) → Dec (m.kind ≡ hydro) → Ordinary m
    go (yes p) q r = inl p
    go (no p) (yes q) r = inr (inl q)
    go (no p) (no q) (yes r) = inr (inr r)
    go (no p) (no q) (no r) = absurd (true≢false (sym h ∙ rw (ne_eqb m.kind coal p, ne_eqb m.kind gas q, ne_eqb m.kind hydro r) refl))

of_ordinary : (m : Member) → Ordinary m → is_ramping m.kind ≡ true
unfolding is_ramping
of_ordinary m h = ⊎_elim (λ e. rw e refl) (⊎_elim (λ e. rw e refl) (λ e. rw e refl)) h

-- The first action that is not sound

before_first : (standard : ℕ) (actions : List Action) (k : ℕ) → k < first_unsound standard actions → ActionWithin standard (get_or actions k no_action)
unfolding first_unsound
before_first standard [] k h = absurd (not-suc-le-zero h)
before_first standard (a ∷ actions) k h = go (before_first standard actions) (action_is_sound standard a) refl k h
  where
    go : ((k : ℕ) → k < first_unsound standard actions → ActionWithin standard (get_or actions k no_action)) → (t : Bool) → action_is_sound standard a ≡ t
        → (k : ℕ) → k < cond t (suc (first_unsound standard actions)) 0 → ActionWithin standard (get_or (a ∷ actions) k no_action)
    go rest true s zero h = within_of standard a s
    go rest true s (suc k) h = rest k (omega arith)
    go rest false s k h = absurd (not-suc-le-zero h)

at_first : (standard : ℕ) (actions : List Action) → first_unsound standard actions < length actions → ActionWithin standard (get_or actions (first_unsound standard actions) no_action) → ⊥
unfolding first_unsound
at_first standard [] h = absurd (not-suc-le-zero h)
at_first standard (a ∷ actions) h = go (at_first standard actions) (action_is_sound standard a) refl h
  where
    go : (first_unsound standard actions < length actions → ActionWithin standard (get_or actions (first_unsound standard actions) no_action) → ⊥) → (t : Bool) → action_is_sound standard a ≡ t
        → cond t (suc (first_unsound standard actions)) 0 < suc (length actions) → ActionWithin standard (get_or (a ∷ actions) (cond t (suc (first_unsound standard actions)) 0) no_action) → ⊥
    go rest true s h w = rest (omega arith) w
    go rest false s h w = refuted (action_is_sound standard a) (of_within standard a) s w

module _ (m : Member) (actions : List Action) where
  abbrev first : ℕ
  first = first_unsound (first_standard actions) actions

  -- actions that are within the limits stand before it
  no_sooner : (i : ℕ) → i ≤ length actions → ActionsWithin actions i → i ≤ first
  no_sooner i l w = go (dec_lt first i)
    where
      go : Dec (first < i) → i ≤ first
      go (yes h) = absurd (at_first (first_standard actions) actions (omega arith) (w first h))
      go (no h) = omega arith

  -- and one that is not does not stand before it
  no_later : (i : ℕ) → (ActionWithin (first_standard actions) (get_or actions i no_action) → ⊥) → first ≤ i
  no_later i n = go (dec_lt i first)
    where
      go : Dec (i < first) → first ≤ i
      go (yes h) = absurd (n (before_first (first_standard actions) actions i h))
      go (no h) = omega arith

  bad_at : (i : ℕ) → first_bad_action actions ≡ i → MayRamp m → i < length actions → ramping m actions ≡ hour_refused 10 i
  bad_at i e may l =
      bad_action_is m actions (of_line_lem m may.line) (of_ordinary m may.ordinary) (omega arith) ∙ ap (hour_refused 10) e

  accepted : MayRamp m → length actions ≤ most_actions → first ≡ length actions → Accepted m actions
  accepted may few e =
      record { line = of_line_lem m may.line; kind = of_ordinary m may.ordinary; few = few; within = all_within (first_standard actions) actions e }

  -- AN HOUR'S ANSWER by exactly one row of the table: its condition holds, and those of the rows before it do not
  pub hour_outcome : HourOutcome m actions (ramping m actions)
  unfolding first_bad_action
  hour_outcome = line (member_is_sound m) refl
    where
      clear : (i : ℕ) → i ≤ first → ActionsWithin actions i
      clear i l k h = before_first (first_standard actions) actions k (omega arith)

      end : MayRamp m → length actions ≤ most_actions → length actions ≤ first → HourOutcome m actions (ramping m actions)
      end may few l = paid (hour_pays m actions (accepted may few (omega (arith, unsound_le (first_standard actions) actions)))) may few (clear (length actions) l)

      early : MayRamp m → first < most_actions → Dec (first < length actions) → HourOutcome m actions (ramping m actions)
      early may a (yes l) = bad_action first (bad_at first (omega arith) may l) may l a (clear first (omega arith)) (at_first (first_standard actions) actions l)
      early may a (no l) = end may (omega (arith, unsound_le (first_standard actions) actions)) (omega arith)

      late : MayRamp m → most_actions ≤ first → Dec (most_actions < length actions) → HourOutcome m actions (ramping m actions)
      late may a (yes l) = one_more (bad_at most_actions (omega arith) may l) may l (clear most_actions a)
      late may a (no l) = end may (omega arith) (omega arith)

      turn : MayRamp m → Dec (first < most_actions) → HourOutcome m actions (ramping m actions)
      turn may (yes a) = early may a (dec_lt first (length actions))
      turn may (no a) = late may (omega arith) (dec_lt most_actions (length actions))

      kind : MemberWithin m → (t : Bool) → is_ramping m.kind ≡ t → HourOutcome m actions (ramping m actions)
      kind w true k = turn (record { line = w; ordinary = ordinary_of m k }) (dec_lt first most_actions)
      kind w false k = other_kind (other_kind_is m actions (of_line_lem m w) k) w (refuted (is_ramping m.kind) (of_ordinary m) k)

      line : (t : Bool) → member_is_sound m ≡ t → HourOutcome m actions (ramping m actions)
      line true s = kind (line_of m s) (is_ramping m.kind) refl
      line false s = bad_line_lem (bad_line_is m actions s) (refuted (member_is_sound m) (of_line_lem m) s)

  decides : (r : Hour) → HourOutcome m actions r → r ≡ ramping m actions
  unfolding first_bad_action
  decides r (bad_line_lem e n) = e ∙ sym (bad_line_is m actions (fails (member_is_sound m) (line_of m) n))
  decides r (other_kind e w n) = e ∙ sym (other_kind_is m actions (of_line_lem m w) (fails (is_ramping m.kind) (ordinary_of m) n))
  decides r (bad_action i e may l few w n) =
      let at : first ≡ i = omega (arith, no_sooner i (omega arith) w, no_later i n) in
      e ∙ sym (bad_at i (omega arith) may l)
  decides r (one_more e may l w) = e ∙ sym (bad_at most_actions (omega (arith, no_sooner most_actions (omega arith) w)) may l)
  decides r (paid e may few w) =
      let le = unsound_le (first_standard actions) actions in
      e ∙ sym (hour_pays m actions (accepted may few (omega (arith, no_sooner (length actions) (omega arith) w))))

  -- EXACTLY: an answer is the hour's where, and only where, a row of the table allows it
  pub hour_exact : (r : Hour) → (r ≡ ramping m actions) ↔ HourOutcome m actions r
  hour_exact r = (λ e. rw e hour_outcome, decides r)

-- THE SAME OF BYTES: 1 exactly where they are no multiple of 24, else as their actions are answered
pub hour_bytes_exact : (m : Member) (bytes : List ℕ) (r : Hour) → (r ≡ ramping_bytes m bytes) ↔ HourBytesOutcome m bytes r
hour_bytes_exact m bytes r = (λ e. to e (ℕ_discrete (length bytes % action_size) 0), from)
  where
    to : r ≡ ramping_bytes m bytes → Dec (length bytes % action_size ≡ 0) → HourBytesOutcome m bytes r
    to e (yes w) = of_actions w ((hour_exact m (actions_in bytes) r).0 (e ∙ whole_is m bytes w))
    to e (no n) = no_actions (e ∙ odd_is m bytes n) n

    from : HourBytesOutcome m bytes r → r ≡ ramping_bytes m bytes
    from (no_actions e n) = e ∙ sym (odd_is m bytes n)
    from (of_actions w o) = (hour_exact m (actions_in bytes) r).1 o ∙ sym (whole_is m bytes w)
