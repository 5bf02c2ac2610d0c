-- What a record gives besides the windows, case by case. Assumes nothing.
use mathlib.Core.Path.{◌≡◌, refl, sym, ◌∙◌}
use mathlib.Core.Bool.{true, false}
use mathlib.Core.List.{List, []}
use Prim.Native.Nat.{ℕ, ◌≤◌}
use native.Mathlib.Omega.{arith}
use lib.IntN.{ℤ, pos}
use lib.Signed.{mag}
use borrow.Author.Tests.{ne_eqb}
use Rattle.call.specs.declared.Call.{Call}
use Rattle.call.specs.Services.{deep_peak, reserve, frequency_event}
use Rattle.pay.specs.declared.Member.{Member}
use Rattle.pay.specs.Rate.{rated_pay}
use Rattle.pay.specs.Event.{event_wh}
use Rattle.pay.specs.Live.{live_pay}
use Rattle.pay.specs.Inner.{is_by_energy, most_pay, most_wh}
use Rattle.pay.proofs.Cases.{live_rest, energy_service, energy_unpaid, energy_wh, no_energy}
use Rattle.score.specs.Scoring.{is_own_live}
use Rattle.score.proofs.Turns.{wh_own, wh_none}
use Rattle.reckon.specs.Reckoning.{other_pay}
use Rattle.reckon.specs.Inner.{OtherTurned}

module _ (m : Member) (x : Call) where
  other_none : is_own_live m x ≡ false → other_pay m x ≡ 0
  unfolding other_pay
  other_none h = rw h refl

  -- not a live call of the member
  pub idle_turned : is_own_live m x ≡ false → OtherTurned m x 0 (pos 0)
  idle_turned h = record { pays = sym (other_none h); energy = sym (wh_none m [] x h); most = omega arith; span = omega arith }

  module _ (o : is_own_live m x ≡ true) where
    -- a window is walked, and pays nothing here
    other_deep : x.service ≡ deep_peak → other_pay m x ≡ 0
    unfolding other_pay
    other_deep e = simp (o, e)

    other_reserve : x.service ≡ reserve → other_pay m x ≡ 0
    unfolding other_pay
    other_reserve e = simp (o, e)

    -- any other goes by its rate
    other_rest : (x.service ≡ deep_peak → ⊥) → (x.service ≡ reserve → ⊥) → other_pay m x ≡ rated_pay m x
    unfolding other_pay
    other_rest d r = simp (o, ne_eqb x.service deep_peak d, ne_eqb x.service reserve r)

    -- an event that gives energy
    pub energy_turned : is_by_energy m.kind x ≡ true → (wh : ℤ) → wh ≡ event_wh x.a x.b x.c → mag wh ≤ most_wh → OtherTurned m x 0 wh
    energy_turned h wh e s =
        let k : x.service ≡ frequency_event = energy_service m x h in
        let d : x.service ≡ deep_peak → ⊥ = λ f. omega arith in
        let r : x.service ≡ reserve → ⊥ = λ f. omega arith in
        record {
          pays = sym (other_rest d r ∙ sym (live_rest m [] x d r) ∙ energy_unpaid m x h []);
          energy = e ∙ sym (wh_own m [] x o ∙ energy_wh m x h);
          most = omega arith;
          span = s;
        }

    module _ (h : is_by_energy m.kind x ≡ false) where
      turned : (g : ℕ) → g ≡ other_pay m x → g ≤ most_pay → OtherTurned m x g (pos 0)
      turned g e l = record { pays = e; energy = sym (wh_own m [] x o ∙ no_energy m.kind x h); most = l; span = omega arith }

      pub deep_turned : x.service ≡ deep_peak → OtherTurned m x 0 (pos 0)
      deep_turned e = turned 0 (sym (other_deep e)) (omega arith)

      pub reserve_turned : x.service ≡ reserve → OtherTurned m x 0 (pos 0)
      reserve_turned e = turned 0 (sym (other_reserve e)) (omega arith)

      pub rated_turned : (series : List ℕ) → (x.service ≡ deep_peak → ⊥) → (x.service ≡ reserve → ⊥) → (g : ℕ) → g ≡ live_pay m series x → g ≤ most_pay → OtherTurned m x g (pos 0)
      rated_turned series d r g e l = turned g (e ∙ live_rest m series x d r ∙ sym (other_rest d r)) l
