-- What the words of 12 say is open is open. Assumes nothing.
use mathlib.Core.Path.{◌≡◌, refl, sym, ◌∙◌}
use mathlib.Core.Bool.{true≢false}
use mathlib.Core.List.{[], ◌∷◌}
use mathlib.Core.Logic.{◌⊎◌, inl, inr, ⊎_elim}
use Prim.Native.Nat.{ℕ, zero, suc, ◌≤◌, ◌<◌}
use native.Mathlib.Omega.{arith}
use lib.IntN.{ℤ, pos}
use borrow.Author.Tests.{lt-ltb, le-ltb, ne_eqb, eqb-true}
use Rattle.call.specs.declared.Call.{Call}
use Rattle.call.specs.Services.{deep_peak, reserve, start_stop, standby, black_start, agc_availability, frequency_event, stability_trip, most_rate}
use Rattle.pay.specs.declared.Member.{Member}
use Rattle.pay.specs.declared.open.Month.{Month}
use Rattle.pay.specs.Kinds.{coal, gas, hydro, wind, photovoltaic}
use Rattle.pay.specs.Member.{MemberWithin, has_availability}
use Rattle.pay.specs.Open.{open_to}
use Rattle.pay.specs.OpenRows.{HasAvailability, Open, deep_peak_coal, reserve_coal, reserve_gas_hydro, start_stop_coal_gas_hydro, standby_coal, black_start_all}
use Rattle.pay.specs.OpenRows.{availability_named, contribution_all, event_wind_photovoltaic, event_others, avc_all, trip_all}
use Rattle.pay.proofs.OpenExact.{before_of, of_open}
use Rattle.form.specs.Form.{flag}
use Rattle.remark.specs.Remarks.{wanted_values}
use Rattle.remark.specs.Wanted.{with_a, OnlyCoal, OnlyThree, CoalToRating, KindAtZero, ByAuction, AllButSky, SkyAtZero}
use Rattle.remark.specs.Wanted.{Wanted, only_coal, only_three, coal_to_rating, kind_at_zero, by_auction, all_but_sky, sky_at_zero}

-- What is open of a service

-- 2: coal with a from 1 to its rating, gas and hydro with a = 0
reserve_rows : (month : Month) (m : Member) (x : Call) → x.service ≡ reserve → Open month m x
    → ((m.kind ≡ coal) × ((kw : ℕ) × (x.a ≡ pos kw) × (1 ≤ kw) × (kw ≤ m.rated.0))) ⊎ (((m.kind ≡ gas) ⊎ (m.kind ≡ hydro)) × (x.a ≡ pos 0))
reserve_rows month m x e (deep_peak_coal s k) = absurd (omega (arith, s, e))
reserve_rows month m x e (reserve_coal s k kw a l h) = inl (k, (kw, a, l, h))
reserve_rows month m x e (reserve_gas_hydro s k a) = inr (k, a)
reserve_rows month m x e (start_stop_coal_gas_hydro s k) = absurd (omega (arith, s, e))
reserve_rows month m x e (standby_coal s k) = absurd (omega (arith, s, e))
reserve_rows month m x e (black_start_all s b) = absurd (omega (arith, s, e))
reserve_rows month m x e (availability_named s k) = absurd (omega (arith, s, e))
reserve_rows month m x e (contribution_all s) = absurd (omega (arith, s, e))
reserve_rows month m x e (event_wind_photovoltaic s k a b) = absurd (omega (arith, s, e))
reserve_rows month m x e (event_others s w p) = absurd (omega (arith, s, e))
reserve_rows month m x e (avc_all s) = absurd (omega (arith, s, e))
reserve_rows month m x e (trip_all s) = absurd (omega (arith, s, e))

-- 3: coal, gas and hydro
start_stop_rows : (month : Month) (m : Member) (x : Call) → x.service ≡ start_stop → Open month m x → (m.kind ≡ coal) ⊎ (m.kind ≡ gas) ⊎ (m.kind ≡ hydro)
start_stop_rows month m x e (deep_peak_coal s k) = absurd (omega (arith, s, e))
start_stop_rows month m x e (reserve_coal s k kw a l h) = absurd (omega (arith, s, e))
start_stop_rows month m x e (reserve_gas_hydro s k a) = absurd (omega (arith, s, e))
start_stop_rows month m x e (start_stop_coal_gas_hydro s k) = k
start_stop_rows month m x e (standby_coal s k) = absurd (omega (arith, s, e))
start_stop_rows month m x e (black_start_all s b) = absurd (omega (arith, s, e))
start_stop_rows month m x e (availability_named s k) = absurd (omega (arith, s, e))
start_stop_rows month m x e (contribution_all s) = absurd (omega (arith, s, e))
start_stop_rows month m x e (event_wind_photovoltaic s k a b) = absurd (omega (arith, s, e))
start_stop_rows month m x e (event_others s w p) = absurd (omega (arith, s, e))
start_stop_rows month m x e (avc_all s) = absurd (omega (arith, s, e))
start_stop_rows month m x e (trip_all s) = absurd (omega (arith, s, e))

-- 8 of wind and photovoltaic
event_rows : (month : Month) (m : Member) (x : Call) → x.service ≡ frequency_event → (m.kind ≡ wind) ⊎ (m.kind ≡ photovoltaic) → Open month m x → (x.a ≡ pos 0) × (x.b ≤ most_rate)
event_rows month m x e sky (deep_peak_coal s k) = absurd (omega (arith, s, e))
event_rows month m x e sky (reserve_coal s k kw a l h) = absurd (omega (arith, s, e))
event_rows month m x e sky (reserve_gas_hydro s k a) = absurd (omega (arith, s, e))
event_rows month m x e sky (start_stop_coal_gas_hydro s k) = absurd (omega (arith, s, e))
event_rows month m x e sky (standby_coal s k) = absurd (omega (arith, s, e))
event_rows month m x e sky (black_start_all s b) = absurd (omega (arith, s, e))
event_rows month m x e sky (availability_named s k) = absurd (omega (arith, s, e))
event_rows month m x e sky (contribution_all s) = absurd (omega (arith, s, e))
event_rows month m x e sky (event_wind_photovoltaic s k a b) = (a, b)
event_rows month m x e sky (event_others s w p) = absurd (⊎_elim w p sky)
event_rows month m x e sky (avc_all s) = absurd (omega (arith, s, e))
event_rows month m x e sky (trip_all s) = absurd (omega (arith, s, e))

-- Each sentence is true

module _ (month : Month) (x : Call) where
  coal_alone_1 : x.service ≡ deep_peak → OnlyCoal month x
  unfolding open_to
  coal_alone_1 e m = (λ o. eqb-true m.kind coal (simp e at (of_open month m x o)), λ k. deep_peak_coal e k)

  coal_alone_4 : x.service ≡ standby → OnlyCoal month x
  unfolding open_to
  coal_alone_4 e m = (λ o. eqb-true m.kind coal (simp e at (of_open month m x o)), λ k. standby_coal e k)

  three_3 : x.service ≡ start_stop → OnlyThree month x
  three_3 e m one = (λ p. start_stop_rows month m (with_a p.0 x) e p.1, λ k. (x.a, start_stop_coal_gas_hydro e k))

  three_2 : x.service ≡ reserve → OnlyThree month x
  three_2 e m one = (λ p. ⊎_elim (λ q. inl q.0) (λ q. inr q.0) (reserve_rows month m (with_a p.0 x) e p.1), back)
    where
      back : (m.kind ≡ coal) ⊎ (m.kind ≡ gas) ⊎ (m.kind ≡ hydro) → (a : ℤ) × Open month m (with_a a x)
      back (inl k) = (pos 1, reserve_coal e k 1 refl (omega arith) one)
      back (inr k) = (pos 0, reserve_gas_hydro e k refl)

  to_rating : x.service ≡ reserve → CoalToRating month x
  to_rating e m k =
      (λ o. ⊎_elim (λ p. p.1) (λ p. absurd (⊎_elim (λ g. omega (arith, g, k)) (λ h. omega (arith, h, k)) p.0)) (reserve_rows month m x e o), λ p. reserve_coal e k p.0 p.1 p.2 p.3)

  at_zero : x.service ≡ reserve → (kind : ℕ) → (kind ≡ gas) ⊎ (kind ≡ hydro) → KindAtZero month x kind
  at_zero e kind g m k = (λ o. ⊎_elim (λ p. absurd (not_coal p.0)) (λ p. p.1) (reserve_rows month m x e o), λ a. reserve_gas_hydro e (⊎_elim (λ h. inl (k ∙ h)) (λ h. inr (k ∙ h)) g) a)
    where
      not_coal : m.kind ≡ coal → ⊥
      not_coal c = ⊎_elim (λ h. omega (arith, h, k, c)) (λ h. omega (arith, h, k, c)) g

  bought : x.service ≡ black_start → ByAuction month x
  unfolding open_to
  bought e m = (λ o. before_of month (simp e at (of_open month m x o)), λ b. black_start_all e b)

  named : (k : ℕ) → 1 ≤ k → k ≤ 8 → (k ≡ wind → ⊥) → (k ≡ photovoltaic → ⊥) → HasAvailability k
  named zero l h w p = absurd (omega arith)
  named (suc zero) l h w p = inl refl
  named (suc (suc zero)) l h w p = inr (inl refl)
  named (suc (suc (suc zero))) l h w p = inr (inr (inl refl))
  named (suc (suc (suc (suc zero)))) l h w p = absurd (w refl)
  named (suc (suc (suc (suc (suc zero))))) l h w p = absurd (p refl)
  named (suc (suc (suc (suc (suc (suc zero)))))) l h w p = inr (inr (inr (inl refl)))
  named (suc (suc (suc (suc (suc (suc (suc zero))))))) l h w p = inr (inr (inr (inr (inl refl))))
  named (suc (suc (suc (suc (suc (suc (suc (suc zero)))))))) l h w p = inr (inr (inr (inr (inr refl))))
  named (suc (suc (suc (suc (suc (suc (suc (suc (suc k))))))))) l h w p = absurd (omega arith)

  not_sky : x.service ≡ agc_availability → AllButSky month x
  unfolding open_to has_availability
  not_sky e m line = (
    λ o. (λ k. true≢false (sym (simp (e, k) at (of_open month m x o))), λ k. true≢false (sym (simp (e, k) at (of_open month m x o)))),
    λ p. availability_named e (named m.kind line.kind.0 line.kind.1 p.0 p.1),
  )

  sky_zero : x.service ≡ frequency_event → SkyAtZero month x
  sky_zero e m sky = (event_rows month m x e sky, λ p. event_wind_photovoltaic e sky p.0 p.1)

-- The values

module _ (kind : ℕ) where
  of_1 : wanted_values deep_peak kind ≡ (1 ∷ 0 ∷ 0 ∷ 0 ∷ kind ∷ 0 ∷ 0 ∷ 0 ∷ [])
  unfolding wanted_values flag
  of_1 = refl

  of_4 : wanted_values standby kind ≡ (1 ∷ 0 ∷ 0 ∷ 0 ∷ kind ∷ 0 ∷ 0 ∷ 0 ∷ [])
  unfolding wanted_values flag
  of_4 = refl

  of_3 : wanted_values start_stop kind ≡ (0 ∷ 1 ∷ 0 ∷ 0 ∷ kind ∷ 0 ∷ 0 ∷ 0 ∷ [])
  unfolding wanted_values flag
  of_3 = refl

  of_5 : wanted_values black_start kind ≡ (0 ∷ 0 ∷ 0 ∷ 0 ∷ kind ∷ 1 ∷ 0 ∷ 0 ∷ [])
  unfolding wanted_values flag
  of_5 = refl

  of_6 : wanted_values agc_availability kind ≡ (0 ∷ 0 ∷ 0 ∷ 0 ∷ kind ∷ 0 ∷ 1 ∷ 0 ∷ [])
  unfolding wanted_values flag
  of_6 = refl

  of_8 : wanted_values frequency_event kind ≡ (0 ∷ 0 ∷ 0 ∷ 0 ∷ kind ∷ 0 ∷ 0 ∷ 1 ∷ [])
  unfolding wanted_values flag
  of_8 = refl

-- 2, by the kind
reserve_coal_told : wanted_values reserve coal ≡ (0 ∷ 0 ∷ 1 ∷ 0 ∷ coal ∷ 0 ∷ 0 ∷ 0 ∷ [])
unfolding wanted_values flag
reserve_coal_told = refl

reserve_gas_told : wanted_values reserve gas ≡ (0 ∷ 0 ∷ 0 ∷ 1 ∷ gas ∷ 0 ∷ 0 ∷ 0 ∷ [])
unfolding wanted_values flag
reserve_gas_told = refl

reserve_hydro_told : wanted_values reserve hydro ≡ (0 ∷ 0 ∷ 0 ∷ 1 ∷ hydro ∷ 0 ∷ 0 ∷ 0 ∷ [])
unfolding wanted_values flag
reserve_hydro_told = refl

reserve_other_told : (kind : ℕ) → hydro < kind → wanted_values reserve kind ≡ (0 ∷ 1 ∷ 0 ∷ 0 ∷ kind ∷ 0 ∷ 0 ∷ 0 ∷ [])
unfolding wanted_values flag
reserve_other_told kind h =
    simp (lt-ltb hydro kind h, le-ltb kind coal (omega arith), ne_eqb kind coal (λ e. omega arith), ne_eqb kind gas (λ e. omega arith), ne_eqb kind hydro (λ e. omega arith))

-- The law

module _ (month : Month) (m : Member) (x : Call) (line : MemberWithin m) where
  abbrev Says : ℕ → Type 0
  Says service = Wanted month x m.kind (wanted_values service m.kind)

  reserve_says : x.service ≡ reserve → (kind : ℕ) → 1 ≤ kind → Wanted month x kind (wanted_values reserve kind)
  reserve_says e zero l = absurd (omega arith)
  reserve_says e (suc zero) l = coal_to_rating reserve_coal_told (to_rating month x e)
  reserve_says e (suc (suc zero)) l = kind_at_zero reserve_gas_told (at_zero month x e gas (inl refl))
  reserve_says e (suc (suc (suc zero))) l = kind_at_zero reserve_hydro_told (at_zero month x e hydro (inr refl))
  reserve_says e (suc (suc (suc (suc kind)))) l = only_three (reserve_other_told (suc (suc (suc (suc kind)))) (omega arith)) (three_2 month x e)

  says : (s : ℕ) → x.service ≡ s → 1 ≤ s → s ≤ stability_trip → (Open month m x → ⊥) → Says s
  says zero e l h n = absurd (omega arith)
  says (suc zero) e l h n = only_coal (of_1 m.kind) (coal_alone_1 month x e)
  says (suc (suc zero)) e l h n = reserve_says e m.kind line.kind.0
  says (suc (suc (suc zero))) e l h n = only_three (of_3 m.kind) (three_3 month x e)
  says (suc (suc (suc (suc zero)))) e l h n = only_coal (of_4 m.kind) (coal_alone_4 month x e)
  says (suc (suc (suc (suc (suc zero))))) e l h n = by_auction (of_5 m.kind) (bought month x e)
  says (suc (suc (suc (suc (suc (suc zero)))))) e l h n = all_but_sky (of_6 m.kind) (not_sky month x e)
  says (suc (suc (suc (suc (suc (suc (suc zero))))))) e l h n = absurd (n (contribution_all e))
  says (suc (suc (suc (suc (suc (suc (suc (suc zero)))))))) e l h n = sky_at_zero (of_8 m.kind) (sky_zero month x e)
  says (suc (suc (suc (suc (suc (suc (suc (suc (suc zero))))))))) e l h n = absurd (n (avc_all e))
  says (suc (suc (suc (suc (suc (suc (suc (suc (suc (suc zero)))))))))) e l h n = absurd (n (trip_all e))
  says (suc (suc (suc (suc (suc (suc (suc (suc (suc (suc (suc s))))))))))) e l h n = absurd (omega arith)

  -- WHAT THE WORDS OF 12 SAY IS OPEN IS OPEN: of a call that is not open to a member of the register one sentence is told, and it is true.
  pub wanted_true : 1 ≤ x.service → x.service ≤ stability_trip → (Open month m x → ⊥) → Wanted month x m.kind (wanted_values x.service m.kind)
  wanted_true l h n = says x.service refl l h n
