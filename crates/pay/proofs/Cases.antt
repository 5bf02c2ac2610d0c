-- The definitions of a live call's pay, case by case. Assumes nothing.
use mathlib.Core.Path.{◌≡◌, refl}
use mathlib.Core.Bool.{Bool, true, false, cond, not, ◌&&◌, true≢false}
use mathlib.Core.List.{List, [], ◌∷◌}
use Prim.Native.Nat.{ℕ}
use native.Mathlib.Nat.{mul-zero}
use lib.Dec.{eqb}
use lib.IntN.{pos}
use borrow.Author.Tests.{ne_eqb, not-true, eqb-true}
use Rattle.le.proofs.Tests.{each}
use Rattle.call.specs.declared.Call.{Call}
use Rattle.call.specs.Services.{deep_peak, reserve, frequency_event}
use Rattle.pay.specs.declared.Member.{Member}
use Rattle.pay.specs.declared.open.Month.{Month}
use Rattle.pay.specs.Member.{is_by_rate}
use Rattle.pay.specs.Window.{window_pay, window_quarters}
use Rattle.pay.specs.Rate.{event_rate, rate_of, rated_pay}
use Rattle.pay.specs.Event.{event_wh, clamp}
use Rattle.pay.specs.Open.{event_open, open_to}
use Rattle.pay.specs.Live.{live_pay, quarters_paid, live_wh}
use Rattle.pay.specs.Inner.{is_by_energy}

module _ (m : Member) (series : List ℕ) (x : Call) where
  pub live_1 : x.service ≡ deep_peak → live_pay m series x ≡ window_pay m deep_peak 0 series x.start x.length
  unfolding live_pay
  live_1 e = simp e

  pub live_2 : x.service ≡ reserve → live_pay m series x ≡ window_pay m reserve (clamp x.a) series x.start x.length
  unfolding live_pay
  live_2 e = simp e

  pub live_rest : (x.service ≡ deep_peak → ⊥) → (x.service ≡ reserve → ⊥) → live_pay m series x ≡ rated_pay m x
  unfolding live_pay
  live_rest p q = simp (ne_eqb _ _ p, ne_eqb _ _ q)

  pub quarters_1 : x.service ≡ deep_peak → quarters_paid m series x ≡ window_quarters m deep_peak 0 series x.start x.length
  unfolding quarters_paid
  quarters_1 e = simp e

  pub quarters_2 : x.service ≡ reserve → quarters_paid m series x ≡ window_quarters m reserve (clamp x.a) series x.start x.length
  unfolding quarters_paid
  quarters_2 e = simp e

  pub quarters_rest : (x.service ≡ deep_peak → ⊥) → (x.service ≡ reserve → ⊥) → quarters_paid m series x ≡ 0
  unfolding quarters_paid
  quarters_rest p q = simp (ne_eqb _ _ p, ne_eqb _ _ q)

-- An event that gives energy
module _ (m : Member) (x : Call) (h : is_by_energy m.kind x ≡ true) where
  energy_parts : (x.service ≡ frequency_event) × (is_by_rate m.kind ≡ false)
  unfolding is_by_energy
  energy_parts = let p = each (eqb x.service frequency_event) (not (is_by_rate m.kind) ∷ []) h in (eqb-true _ _ p.0, not-true (is_by_rate m.kind) p.1.0)

  pub energy_service : x.service ≡ frequency_event
  energy_service = energy_parts.0

  pub energy_open : (month : Month) → open_to month m x ≡ true
  unfolding open_to event_open
  energy_open month = simp (energy_parts.0, energy_parts.1)

  pub energy_unpaid : (series : List ℕ) → live_pay m series x ≡ 0
  unfolding live_pay rated_pay rate_of event_rate
  energy_unpaid series = simp (energy_parts.0, energy_parts.1) (mul-zero m.rated.0)

  pub energy_wh : live_wh m.kind x ≡ event_wh x.a x.b x.c
  unfolding live_wh
  energy_wh = simp (energy_parts.0, energy_parts.1)

pub no_energy : (kind : ℕ) (x : Call) → is_by_energy kind x ≡ false → live_wh kind x ≡ pos 0
unfolding live_wh is_by_energy
no_energy kind x h = go (eqb x.service frequency_event) (is_by_rate kind) h
  where
    go : (t u : Bool) → (t && not u) ≡ false → cond t (cond u (pos 0) (event_wh x.a x.b x.c)) (pos 0) ≡ pos 0
    go true true h = refl
    go true false h = absurd (true≢false h)
    go false u h = refl
