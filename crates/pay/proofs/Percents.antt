-- AGC availability by the hundredth (request 4) beside the rule by whole percents that it replaced; and whose contribution stays by whole percents. Assumes nothing.
use mathlib.Core.Path.{◌≡◌, refl, sym, ◌∙◌, ap}
use mathlib.Core.Bool.{Bool, true, false, cond}
use mathlib.Core.List.{List}
use Prim.Native.Nat.{ℕ, ◌+◌, ◌-◌, ◌*◌, ◌/◌, ◌%◌, ◌≤◌, ◌<◌}
use native.Mathlib.Omega.{arith}
use borrow.Author.Tests.{eqb-false}
use Rattle.call.specs.declared.Call.{Call}
use Rattle.call.specs.Services.{agc_availability}
use Rattle.pay.specs.declared.Member.{Member}
use Rattle.pay.specs.Member.{has_availability}
use Rattle.pay.specs.Kinds.{unpaid, wind, photovoltaic}
use Rattle.pay.specs.Rate.{percents_above, availability_rate, contribution_rate, rate_of, rated_pay}
use Rattle.pay.specs.Live.{live_pay}
use Rattle.pay.proofs.Cases.{live_rest}

-- the paper's rule: a point for each whole percent above 98%
unfoldable pub availability_by_percents : ℕ → ℕ → ℕ
availability_by_percents kind b =
    cond (has_availability kind) ((b - 9800) / 100 * 600000)
    unpaid

rated_6 : (m : Member) (x : Call) → x.service ≡ agc_availability → rated_pay m x ≡ m.rated.0 * availability_rate m.kind x.b
unfolding rated_pay rate_of
rated_6 m x e = simp e

live_6 : (m : Member) (series : List ℕ) (x : Call) → x.service ≡ agc_availability → live_pay m series x ≡ m.rated.0 * availability_rate m.kind x.b
live_6 m series x e = live_rest m series x (λ d. eqb-false 6 1 refl (sym e ∙ d)) (λ d. eqb-false 6 2 refl (sym e ∙ d)) ∙ rated_6 m x e

same_rate : (kind b : ℕ) → b % 100 ≡ 0 → availability_rate kind b ≡ availability_by_percents kind b
unfolding availability_rate availability_by_percents
same_rate kind b h = go (has_availability kind)
  where
    go : (t : Bool) → cond t ((b - 9800) * 6000) 0 ≡ cond t ((b - 9800) / 100 * 600000) 0
    go true = omega arith
    go false = refl

-- AT WHOLE PERCENTS THE PAY IS THE OLD: of every live call whose rate is a whole percent.
pub whole_percents : (m : Member) (series : List ℕ) (x : Call) → x.service ≡ agc_availability → x.b % 100 ≡ 0
    → live_pay m series x ≡ m.rated.0 * availability_by_percents m.kind x.b
whole_percents m series x e h = live_6 m series x e ∙ ap (λ (r : ℕ). m.rated.0 * r) (same_rate m.kind x.b h)

-- Nobody gets less: between whole percents the rate is the old one and what the part of a percent gives, less than a point.
pub no_less : (kind b : ℕ) → (availability_by_percents kind b ≤ availability_rate kind b) × (availability_rate kind b < availability_by_percents kind b + 600000)
unfolding availability_rate availability_by_percents
no_less kind b = go (has_availability kind)
  where
    go : (t : Bool) → (cond t ((b - 9800) / 100 * 600000) 0 ≤ cond t ((b - 9800) * 6000) 0)
        × (cond t ((b - 9800) * 6000) 0 < cond t ((b - 9800) / 100 * 600000) 0 + 600000)
    go true = (omega arith, omega arith)
    go false = (omega arith, omega arith)

-- WIND AND PHOTOVOLTAIC STAY BY WHOLE PERCENTS: their contribution at a rate is that of the rate's whole percents.
pub sky_by_percents : (b : ℕ) → (contribution_rate wind b ≡ contribution_rate wind (b / 100 * 100)) × (contribution_rate photovoltaic b ≡ contribution_rate photovoltaic (b / 100 * 100))
unfolding contribution_rate percents_above
sky_by_percents b = (omega arith, omega arith)
