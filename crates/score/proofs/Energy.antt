-- A record's turn: not a live call of the member, an event that gives energy, any other. Assumes nothing.
use mathlib.Core.Path.{◌≡◌, refl, sym, ◌∙◌}
use mathlib.Core.Bool.{Bool, true, false, cond, ◌&&◌, ◌||◌, true≢false}
use mathlib.Core.List.{List, [], ◌∷◌}
use Prim.Native.Nat.{ℕ, ◌≤◌}
use native.Mathlib.Omega.{arith}
use lib.Dec.{eqb, leb}
use lib.IntN.{ℤ, pos}
use lib.Signed.{mag}
use borrow.Author.Tests.{eqb-true, eqb-false}
use Rattle.le.proofs.Tests.{each}
use Rattle.call.specs.declared.Call.{Call}
use Rattle.call.specs.Revising.{live, contested, withdrawn}
use Rattle.call.specs.Services.{standby, frequency_event}
use Rattle.pay.specs.declared.Member.{Member}
use Rattle.pay.specs.declared.open.Month.{Month}
use Rattle.pay.specs.Open.{open_to}
use Rattle.pay.specs.Event.{event_wh}
use Rattle.pay.specs.Live.{live_pay}
use Rattle.pay.specs.Inner.{is_by_energy, most_pay, most_wh}
use Rattle.pay.proofs.Cases.{energy_service, energy_open, energy_unpaid, energy_wh, no_energy}
use Rattle.score.specs.First.{any_below}
use Rattle.score.specs.Refusing.{is_once, clash_at, number_of, refusal_at}
use Rattle.score.specs.Scoring.{is_own_live, pay_at, wh_at}
use Rattle.score.specs.Inner.{idle_refusal, ScoreTurned}
use Rattle.score.proofs.Turns.{none_free, refuse_other, refuse_withdrawn, refuse_contested, refuse_live, pay_own, pay_none, wh_own, wh_none}

-- a service that can't clash
event_free : (service : ℕ) → service ≡ frequency_event → (leb service standby || is_once service) ≡ false
unfolding is_once
event_free service e = simp e

module _ (month : Month) (m : Member) (book : ℕ → Call) (i : ℕ) where
  -- the refusal of a live call of the member, by whether it is open and whether one stands against it
  pub own_refusal : is_own_live m (book i) ≡ true → (o a : Bool) → o ≡ open_to month m (book i) → a ≡ any_below (clash_at m.number (book i) book) i → refusal_at month m book i ≡ number_of o a
  unfolding is_own_live
  own_refusal h o a d f =
      let p = each (eqb (book i).participant m.number) (eqb (book i).state live ∷ []) h in
      refuse_live month m book i (eqb-true _ _ p.0) (eqb-true _ _ p.1.0) o a d f

  -- not a live call of the member
  pub idle_refusal_lem : (book i).state ≤ withdrawn → is_own_live m (book i) ≡ false → refusal_at month m book i ≡ idle_refusal m.number (book i)
  unfolding is_own_live idle_refusal
  idle_refusal_lem s h = go (eqb (book i).participant m.number) (eqb (book i).state contested) (eqb (book i).state live) refl refl refl h
    where
      go : (t u v : Bool) → eqb (book i).participant m.number ≡ t → eqb (book i).state contested ≡ u → eqb (book i).state live ≡ v
          → (t && v) ≡ false → refusal_at month m book i ≡ cond (t && u) 14 0
      go false u v p q r h = refuse_other month m book i (eqb-false _ _ p)
      go true u true p q r h = absurd (true≢false h)
      go true true false p q r h = refuse_contested month m book i (eqb-true _ _ p) (eqb-true _ _ q)
      go true false false p q r h = refuse_withdrawn month m book i (eqb-true _ _ p) (two (book i).state s (eqb-false _ _ r) (eqb-false _ _ q))
        where
          two : (n : ℕ) → n ≤ 2 → (n ≡ 0 → ⊥) → (n ≡ 1 → ⊥) → n ≡ 2
          two n l a b = omega arith

module _ (month : Month) (m : Member) (series : List ℕ) (book : ℕ → Call) (i : ℕ) where
  pub idle_turned : (book i).state ≤ withdrawn → is_own_live m (book i) ≡ false → (number : ℕ) → number ≡ idle_refusal m.number (book i) → ScoreTurned month m series book i number 0 (pos 0)
  unfolding pay_at wh_at
  idle_turned s h number e = record {
    refusal = e ∙ sym (idle_refusal_lem month m book i s h);
    pays = λ z. sym (pay_none m series (book i) h);
    energy = λ z. sym (wh_none m series (book i) h);
    most = omega arith;
    span = omega arith;
  }

  module _ (o : is_own_live m (book i) ≡ true) where
    -- an event that gives energy is open to the member, and nothing stands against it
    pub energy_turned : is_by_energy m.kind (book i) ≡ true → (wh : ℤ) → wh ≡ event_wh (book i).a (book i).b (book i).c → mag wh ≤ most_wh → ScoreTurned month m series book i 0 0 wh
    unfolding pay_at wh_at number_of
    energy_turned h wh e s =
        let f = none_free m.number (book i) book i (event_free (book i).service (energy_service m (book i) h)) in
        record {
          refusal = sym (own_refusal month m book i o true false (sym (energy_open m (book i) h month)) (sym f));
          pays = λ z. sym (pay_own m series (book i) o ∙ energy_unpaid m (book i) h series);
          energy = λ z. e ∙ sym (wh_own m series (book i) o ∙ energy_wh m (book i) h);
          most = omega arith;
          span = s;
        }

    -- any other that is not refused gives its grains
    pub paid_turned : is_by_energy m.kind (book i) ≡ false → refusal_at month m book i ≡ 0 → (g : ℕ) → g ≡ live_pay m series (book i) → g ≤ most_pay → ScoreTurned month m series book i 0 g (pos 0)
    unfolding pay_at wh_at
    paid_turned h r g e l = record {
      refusal = sym r;
      pays = λ z. e ∙ sym (pay_own m series (book i) o);
      energy = λ z. sym (wh_own m series (book i) o ∙ no_energy m.kind (book i) h);
      most = l;
      span = omega arith;
    }

  -- a refused record gives nothing
  pub refused_turned : (number : ℕ) → (number ≡ 0 → ⊥) → number ≡ refusal_at month m book i → ScoreTurned month m series book i number 0 (pos 0)
  refused_turned number h e = record { refusal = e; pays = λ z. absurd (h z); energy = λ z. absurd (h z); most = omega arith; span = omega arith }
