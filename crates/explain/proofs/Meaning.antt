-- A part's grains follow from what it tells: from the rate, or, of a window, from quarter hours that paid. Assumes nothing.
use mathlib.Core.Path.{◌≡◌, refl, sym, ◌∙◌}
use mathlib.Core.List.{List}
use mathlib.Core.Logic.{◌⊎◌, inl, inr, ◌↔◌}
use Prim.Native.Nat.{ℕ, zero, suc, ◌+◌, ◌*◌, ◌/◌, min}
use native.Mathlib.Decide.{ℕ_discrete}
use native.Mathlib.Omega.{arith}
use borrow.Author.Tests.{eq-eqb, ne_eqb}
use Rattle.call.specs.declared.Call.{Call}
use Rattle.call.specs.Services.{deep_peak, reserve, black_start}
use Rattle.pay.specs.declared.Member.{Member}
use Rattle.pay.specs.Sum.{total}
use Rattle.pay.specs.Window.{quarter_at, window_pay, quarter_counts, window_quarters}
use Rattle.pay.specs.Rate.{most_black_start, rated_pay}
use Rattle.pay.specs.Event.{clamp}
use Rattle.pay.proofs.Sums.{total_none, total_suc}
use Rattle.pay.proofs.Runs.{counts, counts_not}
use Rattle.pay.proofs.Cases.{live_1, live_2, live_rest, quarters_1, quarters_2}
use Rattle.explain.specs.Explaining.{call_part}

-- a sum of nothing, term by term
zero_sum : (f g : ℕ → ℕ) → ((i : ℕ) → f i ≡ 0 → g i ≡ 0) → (s n : ℕ) → total f s n ≡ 0 → total g s n ≡ 0
zero_sum f g h s zero z = total_none g s
zero_sum f g h s (suc n) z =
    let e = total_suc f s n in
    let a : total f s n ≡ 0 = omega arith in
    let c : f (s + n) ≡ 0 = omega arith in
    omega (arith, total_suc g s n, zero_sum f g h s n a, h (s + n) c)

module _ (m : Member) (service a : ℕ) (series : List ℕ) where
  unpaid_quarter : (i : ℕ) → quarter_at m service a series i ≡ 0 → quarter_counts m service a series i ≡ 0
  unpaid_quarter i z = counts_not m service a series i (omega arith)

  uncounted_quarter : (i : ℕ) → quarter_counts m service a series i ≡ 0 → quarter_at m service a series i ≡ 0
  uncounted_quarter i z = go (ℕ_discrete (quarter_at m service a series i) 0)
    where
      go : Dec (quarter_at m service a series i ≡ 0) → quarter_at m service a series i ≡ 0
      go (yes e) = e
      go (no e) = absurd (omega (arith, counts m service a series i (omega arith)))

  window_none : (start minutes : ℕ) → (window_pay m service a series start minutes ≡ 0) ↔ (window_quarters m service a series start minutes ≡ 0)
  unfolding window_pay window_quarters
  window_none start minutes = (zero_sum _ _ unpaid_quarter (start / 15) (minutes / 15), zero_sum _ _ uncounted_quarter (start / 15) (minutes / 15))

module _ (m : Member) (series : List ℕ) (i : ℕ) (x : Call) where
  -- What is no window pays its rate for each kW of rating; black start no more than its ceiling.
  pub rate_pays : (x.service ≡ deep_peak → ⊥) → (x.service ≡ reserve → ⊥) → (x.service ≡ black_start → ⊥)
      → (call_part m series i x).grains.0 ≡ m.rated.0 * (call_part m series i x).rate
  unfolding call_part rated_pay
  rate_pays p q n = live_rest m series x p q ∙ rw (ne_eqb _ _ n) refl

  pub black_start_pays : x.service ≡ black_start → (call_part m series i x).grains.0 ≡ min most_black_start (m.rated.0 * (call_part m series i x).rate)
  unfolding call_part rated_pay
  black_start_pays e =
      live_rest m series x (λ d. let z : ◌≡◌ {A = ℕ} black_start deep_peak = sym e ∙ d in omega arith) (λ d. let z : ◌≡◌ {A = ℕ} black_start reserve = sym e ∙ d in omega arith)
      ∙ rw (eq-eqb _ _ e) refl

  -- A window has grains exactly where a quarter hour of it paid.
  pub quarters_pay : (x.service ≡ deep_peak) ⊎ (x.service ≡ reserve) → ((call_part m series i x).grains.0 ≡ 0) ↔ ((call_part m series i x).quarters ≡ 0)
  unfolding call_part
  quarters_pay (inl e) = rw (live_1 m series x e, quarters_1 m series x e) (window_none m deep_peak 0 series x.start x.length)
  quarters_pay (inr e) = rw (live_2 m series x e, quarters_2 m series x e) (window_none m reserve (clamp x.a) series x.start x.length)
