-- The days of a month add up to it. Assumes nothing.
use mathlib.Core.Path.{◌≡◌, refl, sym, ◌∙◌, ap}
use mathlib.Core.Bool.{Bool, true, false, cond, ◌&&◌}
use mathlib.Core.List.{List}
use Prim.Native.Nat.{ℕ, zero, suc, ◌+◌, ◌-◌, ◌*◌, ◌≤◌, ◌<◌}
use native.Mathlib.Nat.{zero-add}
use native.Mathlib.Omega.{arith}
use lib.Dec.{eqb, ltb, leb}
use borrow.Author.Tests.{le-leb, eqb-false, ltb-true, ltb-false}
use Rattle.units.specs.Month.{minutes_per_day, days_of, minutes_of, quarters_of}
use Rattle.call.specs.Limits.{call_is_sound}
use Rattle.call.specs.Services.{deep_peak, reserve}
use Rattle.book.specs.declared.Verdict.{Verdict}
use Rattle.book.specs.Book.{header_at, count_at, record_at, calls_of}
use Rattle.book.specs.Check.{header_minutes}
use Rattle.pay.specs.declared.Member.{Member}
use Rattle.pay.specs.Sum.{total, total_z}
use Rattle.pay.specs.Event.{energy_pay}
use Rattle.pay.proofs.Sums.{total_none, total_suc, total_split}
use Rattle.score.specs.declared.answer.Score.{Score}
use Rattle.score.specs.declared.answer.Earned.{Earned}
use Rattle.score.specs.declared.answer.Earned.TheVariants.{Accepted, Refused}
use Rattle.score.specs.Series.{series_fault}
use Rattle.score.specs.Refusing.{refusal_at}
use Rattle.score.specs.Scoring.{wh_at, first_refused, after, month_at, in_fen, scoring}
use Rattle.score.proofs.First.{first_le, first_bad_lem, first_all}
use Rattle.score.proofs.Checked.{all_sound}
use Rattle.reckon.specs.Reckoning.{windows_of, minute_at, walked, other_at, reckoned_grains, records_reckoned, sound_reckoned, grains_reckoned, reckoning}
use Rattle.reckon.proofs.Apart.{window_at, service_walked, deep_peak_has, reserve_has}
use Rattle.reckon.proofs.BothWays.{both_ways}
use Rattle.day_runs.specs.DayRuns.{day_of, day_minutes, day_pay, days_pay}
use Rattle.day_runs.proofs.Days.{fen_number, line_good, book_good}
use Rattle.day_runs.proofs.Promises.{day_adds_up}

module _ (m : Member) (b series : List ℕ) (z : (reckoning m b series).number ≡ 0) where
  abbrev days : ℕ
  days = days_of (header_at b).year (header_at b).month

  abbrev deep : ℕ → ℕ
  deep minute = minute_at m series (windows_of m deep_peak (calls_of b)) minute

  abbrev reserves : ℕ → ℕ
  reserves minute = minute_at m series (windows_of m reserve (calls_of b)) minute

  -- One day, and the days up to one

  has_day : (n : ℕ) → n < days → (leb 1 (1 + n) && leb (1 + n) days) ≡ true
  has_day n l = simp (le-leb 1 (1 + n) (omega arith), le-leb (1 + n) days (omega arith))

  one_day : (n : ℕ) → n < days → day_pay m b series (1 + n) ≡ total deep (n * minutes_per_day) minutes_per_day + total reserves (n * minutes_per_day) minutes_per_day
  unfolding day_pay day_minutes day_of
  one_day n l = let e : 1 + n - 1 ≡ n = omega arith in rw e at (day_adds_up m b series (1 + n) z (has_day n l))

  first_days : (n : ℕ) → n ≤ days → total (day_pay m b series) 1 n ≡ total deep 0 (n * minutes_per_day) + total reserves 0 (n * minutes_per_day)
  first_days zero l = omega (arith, total_none (day_pay m b series) 1, total_none deep 0, total_none reserves 0)
  first_days (suc n) l =
      let e : suc n * minutes_per_day ≡ n * minutes_per_day + minutes_per_day = omega arith in
      let p = rw zero-add at (total_split deep 0 (n * minutes_per_day) minutes_per_day) in
      let q = rw zero-add at (total_split reserves 0 (n * minutes_per_day) minutes_per_day) in
      rw e (omega (arith, total_suc (day_pay m b series) 1 n, first_days n (omega arith), one_day n (omega arith), p, q))

  -- THE RUNS OF ALL DAYS PAY WHAT THE MONTH'S MINUTES PAY in services 1 and 2: no minute of a window is in no day, and none in two.
  pub days_add_up : days_pay m b series ≡ walked m deep_peak b series + walked m reserve b series
  unfolding days_pay walked minutes_of
  days_add_up = first_days days (omega arith)

  -- An accepted month

  abbrev fault : Verdict
  fault = series_fault series (quarters_of (header_at b).year (header_at b).month)

  abbrev first : ℕ
  first = first_refused (month_at b) m (record_at b) (count_at b)

  to_sound : grains_reckoned m b series ≡ sound_reckoned m b series
  unfolding grains_reckoned after
  to_sound = rw (line_good m b series z, book_good m b series z) refl

  to_records : sound_reckoned m b series ≡ records_reckoned m b series
  unfolding sound_reckoned after reckoning
  to_records = go (eqb fault.number 0) refl
    where
      go : (t : Bool) → eqb fault.number 0 ≡ t → cond (eqb fault.number 0) (records_reckoned m b series) (Refused fault.number fault.place) ≡ records_reckoned m b series
      go true e = rw e refl
      go false e = absurd (eqb-false fault.number 0 e (sym (fen_number (grains_reckoned m b series) fault.number fault.place (to_sound ∙ rw e refl)) ∙ z))

  none_refused_lem : ltb first (count_at b) ≡ false
  unfolding records_reckoned reckoning first_refused
  none_refused_lem = go (ltb first (count_at b)) refl
    where
      go : (t : Bool) → ltb first (count_at b) ≡ t → ltb first (count_at b) ≡ false
      go false e = e
      go true e =
          absurd
          (first_bad_lem (refusal_at (month_at b) m (record_at b)) (count_at b) (ltb-true first (count_at b) e)
          (sym (fen_number (grains_reckoned m b series) (refusal_at (month_at b) m (record_at b) first) first (to_sound ∙ to_records ∙ rw e refl)) ∙ z))

  records_accepted : records_reckoned m b series ≡ Accepted (record { 0 = reckoned_grains m b series })
  unfolding records_reckoned
  records_accepted = rw none_refused_lem refl

  grains_are : (reckoning m b series).grains.0 ≡ reckoned_grains m b series
  unfolding reckoning in_fen
  grains_are = ap (λ (e : Earned). (in_fen e).grains.0) (to_sound ∙ to_records ∙ records_accepted)

  clear : (k : ℕ) → k < count_at b → refusal_at (month_at b) m (record_at b) k ≡ 0
  unfolding first_refused
  clear =
      first_all (refusal_at (month_at b) m (record_at b)) (count_at b)
      (omega (arith, ltb-false first (count_at b) none_refused_lem, first_le (refusal_at (month_at b) m (record_at b)) (count_at b)))

  -- THE DAYS ADD UP TO WHAT THE WINDOWS PAY THE FIRST WAY,
  pub days_are_windows : days_pay m b series ≡ total (window_at m deep_peak series (record_at b)) 0 (count_at b) + total (window_at m reserve series (record_at b)) 0 (count_at b)
  unfolding walked calls_of header_minutes
  days_are_windows =
      let n = count_at b in
      let minutes = minutes_of (header_at b).year (header_at b).month in
      let sound : (k : ℕ) → k < 0 + n → call_is_sound minutes (record_at b k) ≡ true = λ k l. all_sound b (book_good m b series z) k (omega arith) in
      let none : (k : ℕ) → k < 0 + n → refusal_at (month_at b) m (record_at b) k ≡ 0 = λ k l. clear k (omega arith) in
      let p = service_walked m deep_peak series b (month_at b) minutes deep_peak_has 0 n sound none in
      let q = service_walked m reserve series b (month_at b) minutes reserve_has 0 n sound none in
      days_add_up ∙ rw (p, q) refl

  -- and with the other services and the energy to the month's grains, as `score` gives them.
  pub month_of_days : (scoring m b series).grains.0 ≡ days_pay m b series + total (other_at m (record_at b)) 0 (count_at b) + energy_pay (total_z (wh_at m (record_at b)) (count_at b))
  unfolding reckoned_grains
  month_of_days = ap (λ (r : Score). r.grains.0) (sym (both_ways m b series)) ∙ grains_are ∙ rw (← days_add_up) refl
