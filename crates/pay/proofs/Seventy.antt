-- Where the bands of services 1 and 2 meet (request 1): at exactly half of the rating, at exactly 70% of it, and that nothing else moved. Assumes nothing.
use mathlib.Core.Path.{◌≡◌, refl, ◌∙◌}
use mathlib.Core.Bool.{Bool, true, false, cond, ◌||◌}
use mathlib.Core.Logic.{◌⊎◌, inl, inr}
use Prim.Native.Nat.{ℕ, ◌-◌, ◌*◌, ◌≤◌, ◌<◌}
use native.Mathlib.Omega.{arith}
use lib.Dec.{eqb, ltb}
use borrow.Author.Tests.{lt-ltb, le-ltb, eqb-true, ltb-false}
use Rattle.call.specs.Services.{deep_peak, reserve}
use Rattle.pay.specs.declared.Member.{Member}
use Rattle.pay.specs.Kinds.{coal, gas, hydro}
use Rattle.pay.specs.Window.{lacking, deep_peak_minute, coal_band, coal_minute, gas_hydro_minute, reserve_minute, minute_pay}
use Rattle.pay.specs.Seventy.{coal_band_then, coal_minute_then, reserve_minute_then, minute_pay_then}

-- A minute, by service and kind

module _ (m : Member) (a p : ℕ) where
  peak_coal : m.kind ≡ coal → minute_pay m deep_peak a p ≡ lacking (5 * m.rated.0) p * 3000
  unfolding minute_pay deep_peak_minute
  peak_coal k = simp k

  reserve_coal : m.kind ≡ coal → minute_pay m reserve a p ≡ coal_minute m.rated.0 a p
  unfolding minute_pay reserve_minute
  reserve_coal k = simp k

  reserve_other : (m.kind ≡ gas) ⊎ (m.kind ≡ hydro) → minute_pay m reserve a p ≡ lacking (7 * m.rated.0) p * 10
  unfolding minute_pay reserve_minute gas_hydro_minute
  reserve_other (inl k) = simp k
  reserve_other (inr k) = simp k

-- what the output lacks is the level less the output
lacks : (level p : ℕ) → lacking level p ≡ level - 10 * p
unfolding lacking
lacks level p = go (ltb (10 * p) level) refl
  where
    go : (t : Bool) → ltb (10 * p) level ≡ t → cond t (level - 10 * p) 0 ≡ level - 10 * p
    go true e = refl
    go false e = omega (arith, ltb-false (10 * p) level e)

-- At exactly half

not_above_half : (N a p : ℕ) → 10 * p ≤ 5 * N → coal_minute N a p ≡ 0
unfolding coal_minute
not_above_half N a p h = rw (le-ltb (5 * N) (10 * p) h) refl

module _ (m : Member) (a p : ℕ) (half : 10 * p ≡ 5 * m.rated.0) where
  -- FIFTY PERCENT EXACTLY PAYS NEITHER SERVICE: a coal unit there has no deep peaking and no reserve, whatever power is called.
  pub fifty_neither : m.kind ≡ coal → (minute_pay m deep_peak a p ≡ 0) × (minute_pay m reserve a p ≡ 0)
  fifty_neither k =
      let none : lacking (5 * m.rated.0) p * 3000 ≡ 0 = omega (arith, lacks (5 * m.rated.0) p) in
      (peak_coal m a p k ∙ none, reserve_coal m a p k ∙ not_above_half m.rated.0 a p (omega arith))

  -- Gas and hydro have reserve there: up to 70% they lack 2 tenths of each kW, 10 grains a tenth.
  pub fifty_others : (m.kind ≡ gas) ⊎ (m.kind ≡ hydro) → minute_pay m reserve a p ≡ 20 * m.rated.0
  fifty_others k =
      let fifth : lacking (7 * m.rated.0) p * 10 ≡ 20 * m.rated.0 = omega (arith, lacks (7 * m.rated.0) p) in
      reserve_other m a p k ∙ fifth

-- At exactly 70%

upper_band : (N p : ℕ) → 7 * N ≤ 10 * p → coal_band N p ≡ 70
unfolding coal_band
upper_band N p h = rw (le-ltb (10 * p) (7 * N) h) refl

above_half : (N a p : ℕ) → 5 * N < 10 * p → coal_minute N a p ≡ lacking (10 * a) p * coal_band N p
unfolding coal_minute
above_half N a p h = rw (lt-ltb (5 * N) (10 * p) h) refl

-- SEVENTY PERCENT EXACTLY IS OF THE UPPER BAND: a coal unit there has 70 grains for each tenth that it lacks up to the called power.
pub seventy_upper : (m : Member) (a p : ℕ) → m.kind ≡ coal → 1 ≤ m.rated.0 → 10 * p ≡ 7 * m.rated.0 → minute_pay m reserve a p ≡ (10 * a - 10 * p) * 70
seventy_upper m a p k one e =
    let N = m.rated.0 in
    let band : coal_band N p ≡ 70 = upper_band N p (omega arith) in
    reserve_coal m a p k ∙ above_half N a p (omega arith) ∙ rw (band, lacks (10 * a) p) refl

-- Elsewhere

same_band : (N p : ℕ) → (10 * p ≡ 7 * N → ⊥) → coal_band N p ≡ coal_band_then N p
unfolding coal_band coal_band_then
same_band N p h = go (ltb (10 * p) (7 * N)) refl (ltb (7 * N) (10 * p)) refl
  where
    go : (t : Bool) → ltb (10 * p) (7 * N) ≡ t → (u : Bool) → ltb (7 * N) (10 * p) ≡ u → ◌≡◌ {A = ℕ} (cond t 350 70) (cond t 350 (cond u 70 0))
    go true e u d = refl
    go false e true d = refl
    go false e false d = absurd (h (omega (arith, ltb-false (10 * p) (7 * N) e, ltb-false (7 * N) (10 * p) d)))

same_coal : (N a p : ℕ) → (10 * p ≡ 7 * N → ⊥) → coal_minute N a p ≡ coal_minute_then N a p
unfolding coal_minute coal_minute_then
same_coal N a p h = rw (same_band N p h) refl

same_reserve : (kind N a p : ℕ) → (kind ≡ coal → 10 * p ≡ 7 * N → ⊥) → reserve_minute kind N a p ≡ reserve_minute_then kind N a p
unfolding reserve_minute reserve_minute_then
same_reserve kind N a p h = go (eqb kind coal) refl
  where
    go : (t : Bool) → eqb kind coal ≡ t → cond t (coal_minute N a p) (cond (eqb kind gas || eqb kind hydro) (gas_hydro_minute N p) 0)
        ≡ cond t (coal_minute_then N a p) (cond (eqb kind gas || eqb kind hydro) (gas_hydro_minute N p) 0)
    go true e = same_coal N a p (h (eqb-true kind coal e))
    go false e = refl

-- SEVENTY PERCENT ALONE HAS MOVED: every minute pays what it paid before, but that of a coal unit's reserve at exactly 70%.
pub seventy_alone : (m : Member) (service a p : ℕ) → (m.kind ≡ coal → service ≡ reserve → 10 * p ≡ 7 * m.rated.0 → ⊥) → minute_pay m service a p ≡ minute_pay_then m service a p
unfolding minute_pay minute_pay_then
seventy_alone m service a p h = go (eqb service deep_peak) (eqb service reserve) refl
  where
    go : (t u : Bool) → eqb service reserve ≡ u
        → cond t (deep_peak_minute m.kind m.rated.0 p) (cond u (reserve_minute m.kind m.rated.0 a p) 0)
        ≡ cond t (deep_peak_minute m.kind m.rated.0 p) (cond u (reserve_minute_then m.kind m.rated.0 a p) 0)
    go true u e = refl
    go false true e = same_reserve m.kind m.rated.0 a p (λ k. h k (eqb-true service reserve e))
    go false false e = refl
