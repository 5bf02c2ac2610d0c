-- How much each pay can be, so that no sum wraps. Assumes nothing.
use mathlib.Core.Path.{◌≡◌, refl}
use mathlib.Core.Bool.{Bool, true, false, cond, not, ◌&&◌, ◌||◌}
use mathlib.Core.List.{List, [], ◌∷◌}
use Prim.Native.Nat.{ℕ, zero, suc, ◌+◌, ◌-◌, ◌*◌, ◌/◌, ◌%◌, ◌≤◌, ◌<◌}
use native.Mathlib.Decide.{ℕ_discrete}
use native.Mathlib.Nat.{mul-le-mul, lt_of_le_of_lt}
use native.Mathlib.Omega.{arith}
use lib.Dec.{T, lit<, eqb, ltb, leb}
use lib.Signed.{le_z}
use lib.ListN.{get_or}
use borrow.Author.Tests.{leb-true, ltb-true, eqb-true}
use Rattle.le.proofs.Tests.{Hold, each}
use Rattle.call.specs.declared.Call.{Call}
use Rattle.call.specs.declared.service.Limits.{Limits}
use Rattle.call.specs.Limits.{table, limits_of, limits_allow, call_is_sound}
use Rattle.call.specs.Services.{deep_peak, reserve, start_stop, standby, black_start, agc_availability, agc_contribution, frequency_event, avc, stability_trip, most_moved}
use Rattle.pay.specs.declared.Member.{Member}
use Rattle.pay.specs.Kinds.{coal, gas, hydro, wind, photovoltaic, solar_thermal, pumped_storage, new_storage}
use Rattle.pay.specs.Member.{most_rated, is_by_rate, has_availability}
use Rattle.pay.specs.Sum.{total}
use Rattle.pay.specs.Window.{lacking, deep_peak_minute, coal_band, coal_minute, gas_hydro_minute, reserve_minute, minute_pay, quarter_pay, quarter_at, window_pay}
use Rattle.pay.specs.Rate.{percents_above, start_stop_rate, standby_rate, black_start_rate, availability_rate, contribution_rate, event_band, event_rate, avc_rate, rate_of}
use Rattle.pay.specs.Rate.{rated_pay}
use Rattle.pay.specs.Event.{clamp, called_up}
use Rattle.pay.specs.Live.{live_pay}
use Rattle.pay.specs.Inner.{most_pay}
use Rattle.pay.proofs.Sums.{total_most}
use Rattle.pay.proofs.Signed.{clamp_top}

pub cond_most : (t : Bool) {a b k : ℕ} → a ≤ k → b ≤ k → cond t a b ≤ k
cond_most true p q = p
cond_most false p q = q

-- a product of two numbers, each with a numeral for its bound
pub mul_under : {a b : ℕ} (x y k : ℕ) → a ≤ x → b ≤ y → T (ltb (x * y) k) → a * b < k
mul_under x y k p q t = lt_of_le_of_lt (mul-le-mul p q) (lit< t)

-- Windows

pub lacking_most : (level p : ℕ) → lacking level p ≤ level
unfolding lacking
lacking_most level p = cond_most (ltb (10 * p) level) (omega arith) (omega arith)

pub band_most : (N p : ℕ) → coal_band N p ≤ 350
unfolding coal_band
band_most N p = cond_most (ltb (10 * p) (7 * N)) (omega arith) (omega arith)

-- the pay of a minute is at most linear in the rating and the called power
pub minute_most : (m : Member) (s a p : ℕ) → minute_pay m s a p ≤ 15000 * m.rated.0 + 3500 * a
unfolding minute_pay deep_peak_minute reserve_minute coal_minute gas_hydro_minute
minute_most m s a p =
    let N = m.rated.0 in
    let c : lacking (10 * a) p * coal_band N p ≤ (10 * a) * 350 = mul-le-mul (lacking_most (10 * a) p) (band_most N p) in
    cond_most (eqb s deep_peak) (cond_most (eqb m.kind coal) (omega (arith, lacking_most (5 * N) p)) (omega arith))
    (cond_most (eqb s reserve)
    (cond_most (eqb m.kind coal) (cond_most (ltb (5 * N) (10 * p)) (omega arith) (omega arith))
    (cond_most (eqb m.kind gas || eqb m.kind hydro) (omega (arith, lacking_most (7 * N) p)) (omega arith)))
    (omega arith))

pub quarter_most : (m : Member) (s a p : ℕ) → quarter_pay m s a p ≤ 225000 * m.rated.0 + 52500 * a
unfolding quarter_pay
quarter_most m s a p = omega (arith, minute_most m s a p)

quarter_at_most : (m : Member) (s a : ℕ) (series : List ℕ) (i : ℕ) → quarter_at m s a series i ≤ 225000 * m.rated.0 + 52500 * a
unfolding quarter_at
quarter_at_most m s a series i = quarter_most m s a (get_or series i 0)

-- so many quarter hours from any one, under the limits
pub run_most : (m : Member) (s a : ℕ) (series : List ℕ) (i n : ℕ) → m.rated.0 ≤ 4000000 → a ≤ 4000000 → total (quarter_at m s a series) i n ≤ n * 1110000000000
run_most m s a series i n hn ha = total_most (quarter_at m s a series) 1110000000000 (λ j. omega (arith, quarter_at_most m s a series j)) i n

pub window_most : (m : Member) (s a : ℕ) (series : List ℕ) (start n : ℕ) → m.rated.0 ≤ 4000000 → a ≤ 4000000 → n ≤ 44640 → window_pay m s a series start n ≤ most_pay
unfolding window_pay
window_most m s a series start n hn ha hm = omega (arith, run_most m s a series (start / 15) (n / 15) hn ha)

-- Rates

-- AVC at its largest, far below 6,000,000
pub avc_most : (n b c : ℕ) → n ≤ 44640 → b ≤ 10000 → avc_rate n b c ≤ 4464000
unfolding avc_rate
avc_most n b c hn hb = cond_most (leb 9800 c && leb 9900 b) (mul-le-mul {n₂ = 100} {m₂ = 44640} (omega arith) hn) (omega arith)

start_stop_most : (kind n : ℕ) → start_stop_rate kind n ≤ 12000000
unfolding start_stop_rate
start_stop_most kind n =
    cond_most (eqb kind coal) (cond_most (leb n 4320) (omega arith) (omega arith))
    (cond_most (eqb kind gas) (omega arith) (cond_most (eqb kind hydro) (omega arith) (omega arith)))

standby_most : (kind n : ℕ) → standby_rate kind n ≤ 12000000
unfolding standby_rate
standby_most kind n = cond_most (eqb kind coal) (omega arith) (omega arith)

black_start_most : (kind : ℕ) → black_start_rate kind ≤ 12000000
unfolding black_start_rate
black_start_most kind =
    cond_most (eqb kind hydro || eqb kind pumped_storage) (omega arith)
    (cond_most (eqb kind coal || eqb kind gas || eqb kind wind || eqb kind photovoltaic || eqb kind solar_thermal || eqb kind new_storage) (omega arith) (omega arith))

availability_most : (kind b : ℕ) → b ≤ 10000 → availability_rate kind b ≤ 12000000
unfolding availability_rate
availability_most kind b h = cond_most (has_availability kind) (omega arith) (omega arith)

contribution_most : (kind b : ℕ) → b ≤ 10000 → contribution_rate kind b ≤ 12000000
unfolding contribution_rate percents_above
contribution_most kind b h =
    cond_most (eqb kind coal || eqb kind gas || eqb kind solar_thermal || eqb kind new_storage) (omega arith)
    (cond_most (eqb kind hydro || eqb kind pumped_storage) (omega arith) (cond_most (eqb kind wind || eqb kind photovoltaic) (omega arith) (omega arith)))

event_most : (kind b c : ℕ) → event_rate kind b c ≤ 12000000
unfolding event_rate event_band
event_most kind b c = cond_most (is_by_rate kind) (cond_most (eqb c 1) (omega arith) (cond_most (ltb b 8000) (omega arith) (go (ltb b 9000) refl))) (omega arith)
  where
    go : (t : Bool) → ltb b 9000 ≡ t → cond t (3000000 + (b - 8000) * 2400) 5400000 ≤ 12000000
    go true e = omega (arith, ltb-true b 9000 e)
    go false e = omega arith

-- b is a rate, but in an event
pub rate_most : (kind : ℕ) (x : Call) → x.length ≤ 44640 → ((x.service ≡ frequency_event → ⊥) → x.b ≤ 10000) → rate_of kind x ≤ 12000000
unfolding rate_of
rate_most kind x hn hb = at (ℕ_discrete x.service frequency_event)
  where
    at : Dec (x.service ≡ frequency_event) → rate_of kind x ≤ 12000000
    at (yes e) = simp e (event_most kind x.b x.c)
    at (no n) =
        cond_most (eqb x.service start_stop) (start_stop_most kind x.length)
        (cond_most (eqb x.service standby) (standby_most kind x.length)
        (cond_most (eqb x.service black_start) (black_start_most kind)
        (cond_most (eqb x.service agc_availability) (availability_most kind x.b (hb n))
        (cond_most (eqb x.service agc_contribution) (contribution_most kind x.b (hb n))
        (cond_most (eqb x.service frequency_event) (event_most kind x.b x.c)
        (cond_most (eqb x.service avc) (omega (arith, avc_most x.length x.b x.c hn (hb n)))
        (cond_most (eqb x.service stability_trip) (omega arith) (omega arith))))))))

pub rated_most : (m : Member) (x : Call) → m.rated.0 ≤ most_rated → x.length ≤ 44640 → ((x.service ≡ frequency_event → ⊥) → x.b ≤ 10000) → rated_pay m x ≤ most_pay
unfolding rated_pay
rated_most m x hn hl hb =
    let r : m.rated.0 * rate_of m.kind x ≤ 48000000000000 = mul-le-mul {n₂ = most_rated} {m₂ = 12000000} hn (rate_most m.kind x hl hb) in
    cond_most (eqb x.service black_start) (omega arith) (omega arith)

-- What a sound record leaves for its pay

row_most : (s : ℕ) → (s ≡ frequency_event → ⊥) → (limits_of s).b ≤ 10000
unfolding limits_of table
row_most zero h = omega arith
row_most (suc zero) h = omega arith
row_most (suc (suc zero)) h = omega arith
row_most (suc (suc (suc zero))) h = omega arith
row_most (suc (suc (suc (suc zero)))) h = omega arith
row_most (suc (suc (suc (suc (suc zero))))) h = omega arith
row_most (suc (suc (suc (suc (suc (suc zero)))))) h = omega arith
row_most (suc (suc (suc (suc (suc (suc (suc zero))))))) h = omega arith
row_most (suc (suc (suc (suc (suc (suc (suc (suc zero)))))))) h = absurd (h refl)
row_most (suc (suc (suc (suc (suc (suc (suc (suc (suc zero))))))))) h = omega arith
row_most (suc (suc (suc (suc (suc (suc (suc (suc (suc (suc zero)))))))))) h = omega arith
row_most (suc (suc (suc (suc (suc (suc (suc (suc (suc (suc (suc s))))))))))) h = omega arith

module _ (minutes : ℕ) (x : Call) (h : call_is_sound minutes x ≡ true) where
  parts : (x.start + x.length ≤ minutes) × (limits_allow (limits_of x.service) x ≡ true)
  unfolding call_is_sound
  parts =
      let p = each (leb 1 x.participant) (leb x.participant 64 ∷ leb x.state 2 ∷ leb 1 x.revision
      ∷ (eqb x.state 0 && leb 1 x.service || leb 1 x.state && eqb x.service 0)
      ∷ leb (x.start + x.length) minutes ∷ limits_allow (limits_of x.service) x ∷ []) h in
      (leb-true _ _ p.1.1.1.1.1.0, p.1.1.1.1.1.1.0)

  -- it ends within the month
  pub ends_within : x.start + x.length ≤ minutes
  ends_within = parts.0

  abbrev quartered : Limits → Bool
  quartered l = not l.quarters || eqb (x.start % 15) 0 && eqb (x.length % 15) 0

  abbrev tests : Limits → List Bool
  tests l =
      leb x.start l.latest ∷ leb l.shortest x.length ∷ leb x.length l.longest
      ∷ le_z l.low x.a ∷ le_z x.a l.high ∷ leb x.b l.b ∷ leb x.c l.c ∷ []

  held : Hold (quartered (limits_of x.service) ∷ tests (limits_of x.service))
  unfolding limits_allow
  held = each (quartered (limits_of x.service)) (tests (limits_of x.service)) parts.1

  -- b is a rate, but in an event
  pub b_is_rate : (x.service ≡ frequency_event → ⊥) → x.b ≤ 10000
  b_is_rate n = omega (arith, leb-true x.b (limits_of x.service).b held.1.1.1.1.1.1.0, row_most x.service n)

  -- a reserve call goes up to the largest rating at most
  pub called_most : x.service ≡ reserve → clamp x.a ≤ most_rated
  unfolding limits_of table
  called_most e = clamp_top x.a most_rated (simp e at held.1.1.1.1.1.0)

  -- an event moves up no more than the limit
  pub moved_most : x.service ≡ frequency_event → clamp x.a ≤ most_moved
  unfolding limits_of table
  moved_most e = clamp_top x.a most_moved (simp e at held.1.1.1.1.1.0)

  -- no sound call pays more than the most
  pub live_most : (m : Member) (series : List ℕ) → m.rated.0 ≤ most_rated → minutes ≤ 44640 → live_pay m series x ≤ most_pay
  unfolding live_pay
  live_most m series hn hm =
      let l : x.length ≤ 44640 = omega (arith, ends_within) in
      cond_most (eqb x.service deep_peak) (window_most m deep_peak 0 series x.start x.length hn (omega arith) l) (go (eqb x.service reserve) refl l)
    where
      go : (t : Bool) → eqb x.service reserve ≡ t → x.length ≤ 44640
          → cond t (window_pay m reserve (called_up x.a) series x.start x.length) (rated_pay m x) ≤ most_pay
      go true e l = window_most m reserve (clamp x.a) series x.start x.length hn (called_most (eqb-true _ _ e)) l
      go false e l = rated_most m x hn l b_is_rate
