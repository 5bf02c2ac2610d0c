-- What the runs of a day are held to: their sum, and the month's answer. Assumes nothing.
use mathlib.Core.Path.{◌≡◌, refl, sym, ◌∙◌, ap}
use mathlib.Core.Bool.{Bool, true, false, cond, ◌&&◌}
use mathlib.Core.List.{List, ◌∷◌}
use Prim.Native.Nat.{ℕ, zero, suc, ◌+◌, ◌-◌, ◌*◌, ◌/◌, ◌%◌}
use native.Mathlib.Nat.{zero-add, add-zero}
use native.Mathlib.Omega.{arith}
use lib.Dec.{leb}
use Rattle.units.specs.Month.{days_of}
use Rattle.book.specs.Book.{header_at}
use Rattle.pay.specs.declared.Member.{Member}
use Rattle.pay.specs.Sum.{total}
use Rattle.pay.proofs.Sums.{total_none}
use Rattle.score.specs.Scoring.{scoring}
use Rattle.reckon.specs.Reckoning.{reckoning}
use Rattle.reckon.proofs.BothWays.{both_ways}
use Rattle.day_runs.specs.declared.DayReckoned.{DayReckoned}
use Rattle.day_runs.specs.DayRuns.{Day, places_per_day, minute_of, begins_at, length_at, pay_at, run_at, runs_from, day_of, runs_told, day_reckoned, day_reckoning}
use Rattle.day_runs.specs.DayRuns.{runs_pay, last_sum, day_minutes}
use Rattle.day_runs.proofs.AddUp.{total_first, total_moved, total_pairs, begun, runs_are_minutes}
use Rattle.day_runs.proofs.Slots.{deep_windows, reserve_windows, deep_begins, reserve_begins}
use Rattle.day_runs.proofs.Days.{told_day}

-- what begins at a place
unfoldable begun_at : Day → ℕ → ℕ
begun_at d place = cond (begins_at d place) (length_at d place * pay_at d place) 0

module _ (d : Day) where
  begun_yes : (place : ℕ) → begins_at d place ≡ true → begun_at d place ≡ length_at d place * pay_at d place
  unfolding begun_at
  begun_yes place h = rw h refl

  begun_no : (place : ℕ) → begins_at d place ≡ false → begun_at d place ≡ 0
  unfolding begun_at
  begun_no place h = rw h refl

  pub from_yes : (n place sum : ℕ) → begins_at d place ≡ true → runs_from d place (suc n) sum ≡ run_at d place sum ∷ runs_from d (suc place) n (sum + length_at d place * pay_at d place)
  unfolding runs_from
  from_yes n place sum h = rw h refl

  pub from_no : (n place sum : ℕ) → begins_at d place ≡ false → runs_from d place (suc n) sum ≡ runs_from d (suc place) n sum
  unfolding runs_from
  from_no n place sum h = rw h refl

  -- the runs' pay is what begins at the places
  pays : (n place sum : ℕ) → runs_pay (runs_from d place n sum) ≡ total (begun_at d) place n
  unfolding runs_from runs_pay run_at
  pays zero place sum = sym (total_none (begun_at d) place)
  pays (suc n) place sum = go (begins_at d place) refl (pays n (suc place) (sum + length_at d place * pay_at d place)) (pays n (suc place) sum) (total_first (begun_at d) place n)
    where
      go : (t : Bool) → begins_at d place ≡ t
          → runs_pay (runs_from d (suc place) n (sum + length_at d place * pay_at d place)) ≡ total (begun_at d) (suc place) n
          → runs_pay (runs_from d (suc place) n sum) ≡ total (begun_at d) (suc place) n
          → total (begun_at d) place (suc n) ≡ begun_at d place + total (begun_at d) (suc place) n
          → runs_pay (runs_from d place (suc n) sum) ≡ total (begun_at d) place (suc n)
      go true h a b f =
          let e : place / 2 + length_at d place - place / 2 ≡ length_at d place = omega arith in
          rw (from_yes n place sum h, e) (omega (arith, a, f, begun_yes place h))
      go false h a b f = rw (from_no n place sum h) (omega (arith, b, f, begun_no place h))

  -- and so is the sum that is told last
  last : (n place sum : ℕ) → last_sum sum (runs_from d place n sum) ≡ sum + total (begun_at d) place n
  unfolding runs_from last_sum run_at
  last zero place sum = rw (total_none (begun_at d) place) (sym (add-zero sum))
  last (suc n) place sum = go (begins_at d place) refl (last n (suc place) (sum + length_at d place * pay_at d place)) (last n (suc place) sum) (total_first (begun_at d) place n)
    where
      go : (t : Bool) → begins_at d place ≡ t
          → last_sum (sum + length_at d place * pay_at d place) (runs_from d (suc place) n (sum + length_at d place * pay_at d place))
          ≡ sum + length_at d place * pay_at d place + total (begun_at d) (suc place) n
          → last_sum sum (runs_from d (suc place) n sum) ≡ sum + total (begun_at d) (suc place) n
          → total (begun_at d) place (suc n) ≡ begun_at d place + total (begun_at d) (suc place) n
          → last_sum sum (runs_from d place (suc n) sum) ≡ sum + total (begun_at d) place (suc n)
      go true h a b f = rw (from_yes n place sum h) (omega (arith, a, f, begun_yes place h))
      go false h a b f = rw (from_no n place sum h) (omega (arith, b, f, begun_no place h))

  -- service by service they are the minutes
  all_begun : total (begun_at d) 0 places_per_day ≡ day_minutes d
  unfolding begun_at begun length_at pay_at minute_of day_minutes
  all_begun =
      let end = d.first + 1440 in
      let pairs = total_pairs (begun_at d) (λ i. begun_at d (2 * i)) (λ i. begun_at d (2 * i + 1)) (λ i. refl) (λ i. refl) 1440 in
      let a = total_moved (begun d.member d.series d.deep d.first end) (λ i. begun_at d (2 * i)) d.first 1440 (λ i l. even i) in
      let c = total_moved (begun d.member d.series d.reserves d.first end) (λ i. begun_at d (2 * i + 1)) d.first 1440 (λ i l. uneven i) in
      let p = runs_are_minutes d.member d.series d.deep d.first end 1439 (omega arith) in
      let q = runs_are_minutes d.member d.series d.reserves d.first end 1439 (omega arith) in
      omega (arith, pairs, a, c, p, q)
    where
      even : (i : ℕ) → begun_at d (2 * i) ≡ begun d.member d.series d.deep d.first (d.first + 1440) (d.first + i)
      even i =
          let e : 2 * i / 2 ≡ i = omega arith in
          let z : 2 * i % 2 ≡ 0 = omega arith in
          let n : d.first + 1440 - (d.first + i) ≡ 1440 - i = omega arith in
          rw (deep_begins d (2 * i) z, deep_windows d (2 * i) z, e, n) refl

      uneven : (i : ℕ) → begun_at d (2 * i + 1) ≡ begun d.member d.series d.reserves d.first (d.first + 1440) (d.first + i)
      uneven i =
          let e : (2 * i + 1) / 2 ≡ i = omega arith in
          let z : (2 * i + 1) % 2 ≡ 0 → ⊥ = odd i in
          let n : d.first + 1440 - (d.first + i) ≡ 1440 - i = omega arith in
          rw (reserve_begins d (2 * i + 1) z, reserve_windows d (2 * i + 1) z, e, n) refl
        where
          odd : (i : ℕ) → (2 * i + 1) % 2 ≡ 0 → ⊥
          odd i f = omega arith

-- THE DAY'S RUNS PAY WHAT ITS MINUTES PAY, for a day of an accepted month, and the last line of the list tells that sum.
module _ (m : Member) (b series : List ℕ) (day : ℕ) (z : (reckoning m b series).number ≡ 0) (within : (leb 1 day && leb day (days_of (header_at b).year (header_at b).month)) ≡ true) where
  runs_are : runs_told m b series day ≡ runs_from (day_of m b series day) 0 places_per_day 0
  runs_are = told_day m b series day z _ refl within

  pub day_adds_up : runs_pay (runs_told m b series day) ≡ day_minutes (day_of m b series day)
  day_adds_up = ap runs_pay runs_are ∙ pays (day_of m b series day) places_per_day 0 0 ∙ all_begun (day_of m b series day)

  pub last_is_sum : last_sum 0 (runs_told m b series day) ≡ day_minutes (day_of m b series day)
  last_is_sum = ap (last_sum 0) runs_are ∙ last (day_of m b series day) places_per_day 0 0 ∙ zero-add _ ∙ all_begun (day_of m b series day)

-- The month is answered as `score` answers it.
pub as_scored : (m : Member) (b series : List ℕ) (day : ℕ) → day_reckoning m b series day ≡ day_reckoned (scoring m b series) (runs_told m b series day)
unfolding day_reckoning
as_scored m b series day = ap (λ r. day_reckoned r (runs_told m b series day)) (both_ways m b series)

-- Two outcomes that the contract of `reckon_day` allows are one.
pub day_determined : (m : Member) (b series : List ℕ) (day : ℕ) (r s : DayReckoned) → r ≡ day_reckoning m b series day → s ≡ day_reckoning m b series day → r ≡ s
day_determined m b series day r s p q = p ∙ sym q
