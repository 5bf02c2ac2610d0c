-- The places of a day, one after the other. Assumes nothing.
use mathlib.Core.Path.{◌≡◌, refl}
use mathlib.Core.Bool.{true, false}
use mathlib.Core.List.{[], ◌∷◌}
use Prim.Native.Nat.{ℕ, suc, ◌+◌, ◌-◌, ◌/◌, ◌%◌, ◌≤◌, ◌<◌}
use native.Mathlib.Numerals.{add-one}
use native.Mathlib.Omega.{arith}
use borrow.Author.Tests.{ne_eqb}
use Rattle.call.specs.Services.{deep_peak, reserve}
use Rattle.day_runs.specs.DayRuns.{Day, places_per_day, minute_of, is_deep, windows_at, run_begins, begins_at, length_at, pay_at, run_at, runs_from}
use Rattle.day_runs.specs.Inner.{service_run}

module _ (d : Day) (place : ℕ) where
  pub deep_windows : place % 2 ≡ 0 → windows_at d place ≡ d.deep
  unfolding windows_at is_deep
  deep_windows e = rw e refl

  pub reserve_windows : (place % 2 ≡ 0 → ⊥) → windows_at d place ≡ d.reserves
  unfolding windows_at is_deep
  reserve_windows h = rw (ne_eqb (place % 2) 0 h) refl

  -- whether a run begins at the place
  pub deep_begins : place % 2 ≡ 0 → begins_at d place ≡ run_begins d.series d.deep d.first (d.first + place / 2)
  unfolding begins_at minute_of
  deep_begins e = rw (deep_windows e) refl

  pub reserve_begins : (place % 2 ≡ 0 → ⊥) → begins_at d place ≡ run_begins d.series d.reserves d.first (d.first + place / 2)
  unfolding begins_at minute_of
  reserve_begins h = rw (reserve_windows h) refl

  -- and which
  pub deep_run : (sum : ℕ) → place % 2 ≡ 0 → run_at d place sum ≡ service_run d.member d.series d.deep deep_peak d.first (place / 2) sum
  unfolding run_at service_run length_at pay_at minute_of is_deep
  deep_run sum e = rw (deep_windows e, e) refl

  pub reserve_run : (sum : ℕ) → (place % 2 ≡ 0 → ⊥) → run_at d place sum ≡ service_run d.member d.series d.reserves reserve d.first (place / 2) sum
  unfolding run_at service_run length_at pay_at minute_of is_deep
  reserve_run sum h = rw (reserve_windows h, ne_eqb (place % 2) 0 h) refl

  module _ (l : place < places_per_day) where
    e : places_per_day - place ≡ suc (places_per_day - (place + 1))
    e = omega arith

    -- no run begins at the place: those from the next on
    pub runs_skip : (sum : ℕ) → begins_at d place ≡ false → runs_from d place (places_per_day - place) sum ≡ runs_from d (place + 1) (places_per_day - (place + 1)) sum
    unfolding runs_from
    runs_skip sum h = rw (e, h, add-one place) refl

    -- one begins: it, and those from the next on
    pub runs_take : (sum : ℕ) → begins_at d place ≡ true
        → runs_from d place (places_per_day - place) sum ≡ run_at d place sum ∷ runs_from d (place + 1) (places_per_day - (place + 1)) (run_at d place sum).sum.0
    unfolding runs_from run_at
    runs_take sum h = rw (e, h, add-one place) refl

  pub runs_end : (sum : ℕ) → places_per_day ≤ place → runs_from d place (places_per_day - place) sum ≡ []
  unfolding runs_from
  runs_end sum l = let z : places_per_day - place ≡ 0 = omega arith in rw z refl
