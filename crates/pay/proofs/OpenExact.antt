-- The test of what is open holds exactly where a row of the paper's list opens the call; and which months the closing month parts. Assumes nothing.
use mathlib.Core.Path.{◌≡◌, refl, sym, ◌∙◌, ap}
use mathlib.Core.Bool.{Bool, true, false, cond, ◌&&◌, ◌||◌, true≢false}
use mathlib.Core.List.{[], ◌∷◌}
use mathlib.Core.Logic.{◌⊎◌, inl, inr, ⊎_elim, ◌↔◌}
use Prim.Native.Nat.{ℕ, zero, suc, ◌≤◌}
use native.Mathlib.Omega.{arith}
use lib.Dec.{eqb, ltb, leb}
use lib.IntN.{ℤ, pos, negsuc}
use lib.Signed.{le_z}
use borrow.Author.Tests.{lt-ltb, le-leb, ne_eqb, eqb-true, eqb-false, ltb-true, leb-true}
use Rattle.le.proofs.Tests.{each}
use Rattle.call.specs.declared.Call.{Call}
use Rattle.call.specs.Services.{deep_peak, reserve, start_stop, standby, black_start, agc_availability, agc_contribution, frequency_event, avc, stability_trip, most_rate}
use Rattle.pay.specs.declared.Member.{Member}
use Rattle.pay.specs.declared.open.Month.{Month}
use Rattle.pay.specs.Kinds.{coal, gas, hydro, wind, photovoltaic, solar_thermal, pumped_storage, new_storage}
use Rattle.pay.specs.Member.{is_by_rate, has_availability}
use Rattle.pay.specs.Open.{is_zero, reserve_open, event_open, is_before, closing_month, black_start_open, open_to}
use Rattle.pay.specs.OpenRows.{Before, HasAvailability, Open, deep_peak_coal, reserve_coal, reserve_gas_hydro, start_stop_coal_gas_hydro, standby_coal, black_start_all}
use Rattle.pay.specs.OpenRows.{availability_named, contribution_all, event_wind_photovoltaic, event_others, avc_all, trip_all}

-- The closing month is January 2027: every month up to 2026 is before it, and none from 2027 on

pub up_to_2026 : (month : Month) → month.year ≤ 2026 → Before month closing_month
up_to_2026 month h = inl (omega arith)

pub from_2027 : (month : Month) → 2027 ≤ month.year → 1 ≤ month.month → Before month closing_month → ⊥
from_2027 month h g (inl l) = omega arith
from_2027 month h g (inr (e, l)) = omega arith

-- Tests joined by `||`

either : (t u : Bool) → (t || u) ≡ true → (t ≡ true) ⊎ (u ≡ true)
either true u h = inl refl
either false u h = inr h

neither : (t u : Bool) → (t || u) ≡ false → (t ≡ false) × (u ≡ false)
neither true u h = absurd (true≢false h)
neither false u h = (refl, h)

-- a kind of two, and of three
of_two : (kind p q : ℕ) → (eqb kind p || eqb kind q) ≡ true → (kind ≡ p) ⊎ (kind ≡ q)
of_two kind p q h = ⊎_elim (λ e. inl (eqb-true kind p e)) (λ e. inr (eqb-true kind q e)) (either (eqb kind p) (eqb kind q) h)

of_three : (kind p q r : ℕ) → (eqb kind p || eqb kind q || eqb kind r) ≡ true → (kind ≡ p) ⊎ (kind ≡ q) ⊎ (kind ≡ r)
of_three kind p q r h =
    ⊎_elim (λ e. ⊎_elim (λ d. inl d) (λ d. inr (inl d)) (of_two kind p q e)) (λ e. inr (inr (eqb-true kind r e))) (either (eqb kind p || eqb kind q) (eqb kind r) h)

-- Service 2

from_1 : (a : ℤ) (N : ℕ) → le_z (pos 1) a ≡ true → le_z a (pos N) ≡ true → (kw : ℕ) × (a ≡ pos kw) × (1 ≤ kw) × (kw ≤ N)
from_1 (pos n) N l h = (n, refl, leb-true 1 n l, leb-true n N h)
from_1 (negsuc n) N l h = absurd (true≢false (sym l))

is_zero_lem : (a : ℤ) → is_zero a ≡ true → a ≡ pos 0
unfolding is_zero
is_zero_lem (pos n) h = ap pos (eqb-true n 0 h)
is_zero_lem (negsuc n) h = absurd (true≢false (sym h))

module _ (month : Month) (m : Member) (x : Call) where
  reserve_of : x.service ≡ reserve → reserve_open m.kind m.rated.0 x.a ≡ true → Open month m x
  unfolding reserve_open
  reserve_of s h = go (eqb m.kind coal) refl (eqb m.kind gas || eqb m.kind hydro) refl h
    where
      go : (t : Bool) → eqb m.kind coal ≡ t → (u : Bool) → (eqb m.kind gas || eqb m.kind hydro) ≡ u
          → cond t (le_z (pos 1) x.a && le_z x.a (pos m.rated.0)) (cond u (is_zero x.a) false) ≡ true → Open month m x
      go true k u v h =
          let p = each (le_z (pos 1) x.a) (le_z x.a (pos m.rated.0) ∷ []) h in
          let a = from_1 x.a m.rated.0 p.0 p.1.0 in
          reserve_coal s (eqb-true _ _ k) a.0 a.1 a.2 a.3
      go false k true v h = reserve_gas_hydro s (of_two m.kind gas hydro v) (is_zero_lem x.a h)
      go false k false v h = absurd (true≢false (sym h))

  -- Service 8
  event_of : x.service ≡ frequency_event → event_open m.kind x.a x.b ≡ true → Open month m x
  unfolding event_open is_by_rate
  event_of s h = go (eqb m.kind wind || eqb m.kind photovoltaic) refl h
    where
      go : (t : Bool) → (eqb m.kind wind || eqb m.kind photovoltaic) ≡ t → cond t (is_zero x.a && leb x.b most_rate) true ≡ true → Open month m x
      go true k h =
          let p = each (is_zero x.a) (leb x.b most_rate ∷ []) h in
          event_wind_photovoltaic s (of_two m.kind wind photovoltaic k) (is_zero_lem x.a p.0) (leb-true _ _ p.1.0)
      go false k h = let p = neither (eqb m.kind wind) (eqb m.kind photovoltaic) k in event_others s (eqb-false _ _ p.0) (eqb-false _ _ p.1)

-- Service 5

pub before_of : (month : Month) → black_start_open month ≡ true → Before month closing_month
unfolding black_start_open is_before
before_of month h =
    ⊎_elim (λ e. inl (ltb-true _ _ e))
    (λ e. let p = each (eqb month.year closing_month.year) (ltb month.month closing_month.month ∷ []) e in inr (eqb-true _ _ p.0, ltb-true _ _ p.1.0))
    (either (ltb month.year closing_month.year) (eqb month.year closing_month.year && ltb month.month closing_month.month) h)

pub of_before : (month : Month) → Before month closing_month → black_start_open month ≡ true
unfolding black_start_open is_before
of_before month (inl l) = simp (lt-ltb _ _ l)
of_before month (inr (e, l)) = simp (e, lt-ltb _ _ l)

-- Service 6

named_of : (kind : ℕ) → has_availability kind ≡ true → HasAvailability kind
unfolding has_availability
named_of kind h =
    ⊎_elim
    (λ e.
    ⊎_elim
    (λ d.
    ⊎_elim (λ c. ⊎_elim (λ b. inl b) (⊎_elim (λ b. inr (inl b)) (λ b. inr (inr (inl b)))) (of_three kind coal gas hydro c)) (λ c. inr (inr (inr (inl (eqb-true _ _ c)))))
    (either (eqb kind coal || eqb kind gas || eqb kind hydro) (eqb kind solar_thermal) d))
    (λ d. inr (inr (inr (inr (inl (eqb-true _ _ d))))))
    (either (eqb kind coal || eqb kind gas || eqb kind hydro || eqb kind solar_thermal) (eqb kind pumped_storage) e))
    (λ e. inr (inr (inr (inr (inr (eqb-true _ _ e))))))
    (either (eqb kind coal || eqb kind gas || eqb kind hydro || eqb kind solar_thermal || eqb kind pumped_storage) (eqb kind new_storage) h)

of_named : (kind : ℕ) → HasAvailability kind → has_availability kind ≡ true
unfolding has_availability
of_named kind h = ⊎_elim (λ e. rw e) (⊎_elim (λ e. rw e) (⊎_elim (λ e. rw e) (⊎_elim (λ e. rw e) (⊎_elim (λ e. rw e) (λ e. rw e))))) h

-- Every service

module _ (month : Month) (m : Member) (x : Call) where
  beyond : 11 ≤ x.service → open_to month m x ≡ false
  unfolding open_to
  beyond l =
      simp (
        ne_eqb x.service deep_peak (λ d. omega arith),
        ne_eqb x.service reserve (λ d. omega arith),
        ne_eqb x.service start_stop (λ d. omega arith),
        ne_eqb x.service standby (λ d. omega arith),
        ne_eqb x.service black_start (λ d. omega arith),
        ne_eqb x.service agc_availability (λ d. omega arith),
        ne_eqb x.service agc_contribution (λ d. omega arith),
        ne_eqb x.service frequency_event (λ d. omega arith),
        ne_eqb x.service avc (λ d. omega arith),
        ne_eqb x.service stability_trip (λ d. omega arith),
      )

  open_at : (s : ℕ) → x.service ≡ s → open_to month m x ≡ true → Open month m x
  unfolding open_to
  open_at zero e h = absurd (true≢false (sym (simp e at h)))
  open_at (suc zero) e h = deep_peak_coal e (eqb-true m.kind coal (simp e at h))
  open_at (suc (suc zero)) e h = reserve_of month m x e (simp e at h)
  open_at (suc (suc (suc zero))) e h = start_stop_coal_gas_hydro e (of_three m.kind coal gas hydro (simp e at h))
  open_at (suc (suc (suc (suc zero)))) e h = standby_coal e (eqb-true m.kind coal (simp e at h))
  open_at (suc (suc (suc (suc (suc zero))))) e h = black_start_all e (before_of month (simp e at h))
  open_at (suc (suc (suc (suc (suc (suc zero)))))) e h = availability_named e (named_of m.kind (simp e at h))
  open_at (suc (suc (suc (suc (suc (suc (suc zero))))))) e h = contribution_all e
  open_at (suc (suc (suc (suc (suc (suc (suc (suc zero)))))))) e h = event_of month m x e (simp e at h)
  open_at (suc (suc (suc (suc (suc (suc (suc (suc (suc zero))))))))) e h = avc_all e
  open_at (suc (suc (suc (suc (suc (suc (suc (suc (suc (suc zero)))))))))) e h = trip_all e
  open_at (suc (suc (suc (suc (suc (suc (suc (suc (suc (suc (suc s))))))))))) e h = absurd (true≢false (sym h ∙ beyond (omega arith)))

  pub open_of : open_to month m x ≡ true → Open month m x
  open_of h = open_at x.service refl h

  pub of_open : Open month m x → open_to month m x ≡ true
  unfolding open_to reserve_open event_open is_by_rate is_zero
  of_open (deep_peak_coal s k) = simp (s, k)
  of_open (reserve_coal s k kw a l h) = simp (s, k, a, le-leb 1 kw l, le-leb kw m.rated.0 h)
  of_open (reserve_gas_hydro s (inl k) a) = simp (s, k, a)
  of_open (reserve_gas_hydro s (inr k) a) = simp (s, k, a)
  of_open (start_stop_coal_gas_hydro s (inl k)) = simp (s, k)
  of_open (start_stop_coal_gas_hydro s (inr (inl k))) = simp (s, k)
  of_open (start_stop_coal_gas_hydro s (inr (inr k))) = simp (s, k)
  of_open (standby_coal s k) = simp (s, k)
  of_open (black_start_all s b) = simp (s, of_before month b)
  of_open (availability_named s k) = simp (s, of_named m.kind k)
  of_open (contribution_all s) = simp s
  of_open (event_wind_photovoltaic s (inl k) a b) = simp (s, k, a, le-leb x.b most_rate b)
  of_open (event_wind_photovoltaic s (inr k) a b) = simp (s, k, a, le-leb x.b most_rate b)
  of_open (event_others s w p) = simp (s, ne_eqb m.kind wind w, ne_eqb m.kind photovoltaic p)
  of_open (avc_all s) = simp s
  of_open (trip_all s) = simp s

  -- A call is open exactly where a row of the list opens it.
  pub open_exact : (open_to month m x ≡ true) ↔ Open month m x
  open_exact = (open_of, of_open)
