-- A window's pay by the sum over a minute of each quarter hour, times what is the same for every minute. Assumes nothing.
use mathlib.Core.Path.{◌≡◌, refl, sym, ◌∙◌}
use mathlib.Core.Bool.{Bool, true, false, cond, ◌&&◌, ◌||◌, true≢false}
use mathlib.Core.List.{List}
use mathlib.Core.Logic.{◌⊎◌, inl, inr}
use native.Mathlib.Decide.{ℕ_discrete}
use Prim.Native.Nat.{ℕ, zero, suc, ◌+◌, ◌-◌, ◌*◌, ◌/◌, ◌≤◌, ◌<◌}
use native.Mathlib.Nat.{mul-le-mul, zero-mul, add-mul}
use native.Mathlib.Omega.{arith}
use lib.Dec.{eqb, ltb}
use lib.ListN.{get_or, length, take, drop, length-drop}
use lib.Seq.{length-take-le, get_or-take, get_or-drop}
use borrow.Author.Tests.{lt-ltb, le-ltb}
use Rattle.call.specs.Services.{deep_peak, reserve}
use Rattle.pay.specs.declared.Member.{Member}
use Rattle.pay.specs.Kinds.{coal, gas, hydro}
use Rattle.pay.specs.Sum.{total}
use Rattle.pay.specs.Window.{lacking, deep_peak_minute, coal_band, coal_minute, gas_hydro_minute, reserve_minute, minute_pay, quarter_pay, quarter_at, window_pay, quarter_counts}
use Rattle.pay.specs.Inner.{lacking_at, coal_at}
use Rattle.pay.proofs.Sums.{total_one, total_most, total_same, total_zero}
use Rattle.pay.proofs.Bounds.{cond_most, lacking_most, band_most}

-- A minute

pub lack_some : (level p : ℕ) → p < (level + 9) / 10 → lacking level p ≡ level - 10 * p
unfolding lacking
lack_some level p h = simp (lt-ltb (10 * p) level (omega arith))

pub lack_none : (level p : ℕ) → (level + 9) / 10 ≤ p → lacking level p ≡ 0
unfolding lacking
lack_none level p h = simp (le-ltb (10 * p) level (omega arith))

pub coal_some : (N a p : ℕ) → ltb (5 * N) (10 * p) ≡ true → ltb (10 * p) (10 * a) ≡ true → coal_minute N a p ≡ (10 * a - 10 * p) * coal_band N p
unfolding coal_minute lacking
coal_some N a p h g = simp (h, g)

pub coal_none : (N a p : ℕ) → (ltb (5 * N) (10 * p) && ltb (10 * p) (10 * a)) ≡ false → coal_minute N a p ≡ 0
unfolding coal_minute lacking
coal_none N a p h = go (ltb (5 * N) (10 * p)) (ltb (10 * p) (10 * a)) h
  where
    go : (t u : Bool) → (t && u) ≡ false → cond t (cond u (10 * a - 10 * p) 0 * coal_band N p) 0 ≡ 0
    go true true h = absurd (true≢false h)
    go true false h = zero-mul (coal_band N p)
    go false u h = refl

pub coal_most : (N a p : ℕ) → coal_minute N a p ≤ 3500 * a
unfolding coal_minute
coal_most N a p =
    let c : lacking (10 * a) p * coal_band N p ≤ (10 * a) * 350 = mul-le-mul (lacking_most (10 * a) p) (band_most N p) in
    cond_most (ltb (5 * N) (10 * p)) (omega arith) (omega arith)

-- A run of quarter hours

-- the part of a series that a run goes over
pub run_length : (xs : List ℕ) (s n : ℕ) → s + n ≤ length xs → length (take (s + n - s) (drop s xs)) ≡ n
run_length xs s n h = length-take-le (s + n - s) (drop s xs) (omega (arith, length-drop s xs)) ∙ omega arith

pub run_at : (xs : List ℕ) (s n k : ℕ) → s + n ≤ length xs → k < length (take (s + n - s) (drop s xs))
    → get_or (take (s + n - s) (drop s xs)) k 0 ≡ get_or xs (s + k) 0
run_at xs s n k h l = get_or-take (s + n - s) (drop s xs) k 0 (omega (arith, run_length xs s n h)) ∙ rw get_or-drop

pub lacking_run_most : (level : ℕ) (series : List ℕ) (s n : ℕ) → level ≤ 28000000 → total (lacking_at level series) s n ≤ n * 28000000
unfolding lacking_at
lacking_run_most level series s n h = total_most (lacking_at level series) 28000000 (λ i. omega (arith, lacking_most level (get_or series i 0))) s n

pub coal_run_most : (N a : ℕ) (series : List ℕ) (s n : ℕ) → a ≤ 4000000 → total (coal_at N a series) s n ≤ n * 14000000000
unfolding coal_at
coal_run_most N a series s n h = total_most (coal_at N a series) 14000000000 (λ i. omega (arith, coal_most N a (get_or series i 0))) s n

-- A window

pub gas_or_hydro : (k : ℕ) → gas ≤ k → k ≤ hydro → (k ≡ gas) ⊎ (k ≡ hydro)
gas_or_hydro k h l = go (ℕ_discrete k gas)
  where
    go : Dec (k ≡ gas) → (k ≡ gas) ⊎ (k ≡ hydro)
    go (yes e) = inl e
    go (no f) = inr (omega arith)

total_times : (f g : ℕ → ℕ) (k : ℕ) → ((i : ℕ) → f i ≡ g i * k) → (s n : ℕ) → total f s n ≡ total g s n * k
unfolding total
total_times f g k h s zero = sym (zero-mul k)
total_times f g k h s (suc n) = rw (total_times f g k h s n, h (s + n)) (sym (add-mul (total g s n) (g (s + n)) k))

module _ (m : Member) (a : ℕ) (series : List ℕ) (start n : ℕ) where
  -- 1, coal
  pub deep_window : m.kind ≡ coal → window_pay m deep_peak a series start n ≡ total (lacking_at (5 * m.rated.0) series) (start / 15) (n / 15) * 3000 * 15
  unfolding window_pay quarter_at quarter_pay minute_pay deep_peak_minute lacking_at
  deep_window e =
      let t = total_times (quarter_at m deep_peak a series) (lacking_at (5 * m.rated.0) series) 45000 (λ i. simp e (omega arith)) (start / 15) (n / 15) in
      omega arith

  -- 2, coal
  pub coal_window : m.kind ≡ coal → window_pay m reserve a series start n ≡ total (coal_at m.rated.0 a series) (start / 15) (n / 15) * 15
  unfolding window_pay quarter_at quarter_pay minute_pay reserve_minute coal_at
  coal_window e = total_times (quarter_at m reserve a series) (coal_at m.rated.0 a series) 15 (λ i. simp e) (start / 15) (n / 15)

  -- 2, gas and hydro
  pub gas_hydro_window : eqb m.kind coal ≡ false → (eqb m.kind gas || eqb m.kind hydro) ≡ true
      → window_pay m reserve a series start n ≡ total (lacking_at (7 * m.rated.0) series) (start / 15) (n / 15) * 10 * 15
  unfolding window_pay quarter_at quarter_pay minute_pay reserve_minute gas_hydro_minute lacking_at
  gas_hydro_window c e =
      let t = total_times (quarter_at m reserve a series) (lacking_at (7 * m.rated.0) series) 150 (λ i. simp (c, e) (omega arith)) (start / 15) (n / 15) in
      omega arith

  -- what pays nothing in a minute pays nothing
  pub none_window : (service : ℕ) → ((p : ℕ) → minute_pay m service a p ≡ 0) → window_pay m service a series start n ≡ 0
  unfolding window_pay quarter_at quarter_pay
  none_window service h =
      total_same (quarter_at m service a series) (λ i. 0) (start / 15) (n / 15) (λ i l. rw (h (get_or series (start / 15 + i) 0)) refl) ∙ total_zero (start / 15) (n / 15)

-- A quarter hour that counts

module _ (m : Member) (service a : ℕ) (series : List ℕ) where
  -- a window of one quarter hour
  pub one_quarter : (i n : ℕ) → n ≡ i * 15 → window_pay m service a series n 15 ≡ quarter_at m service a series i
  unfolding window_pay
  one_quarter i n e =
      let d : n / 15 ≡ i = omega arith in
      rw d (total_one (quarter_at m service a series) i)

  pub counts : (i : ℕ) → 0 < quarter_at m service a series i → quarter_counts m service a series i ≡ 1
  unfolding quarter_counts
  counts i h = simp (lt-ltb 0 (quarter_at m service a series i) h)

  pub counts_not : (i : ℕ) → quarter_at m service a series i ≤ 0 → quarter_counts m service a series i ≡ 0
  unfolding quarter_counts
  counts_not i h = simp (le-ltb 0 (quarter_at m service a series i) h)
