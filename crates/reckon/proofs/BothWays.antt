-- Both ways of scoring give one answer, on every register line, book and series, sound or not. Assumes nothing.
use mathlib.Core.Path.{◌≡◌, refl, sym, ◌∙◌, ap}
use mathlib.Core.Bool.{Bool, true, false, cond, not, ◌&&◌, ◌||◌}
use mathlib.Core.List.{List}
use Prim.Native.Nat.{ℕ, ◌+◌, ◌/◌, ◌<◌}
use native.Mathlib.Omega.{arith}
use lib.Dec.{eqb, ltb}
use borrow.Author.Tests.{eqb-true, ltb-false}
use Rattle.call.specs.declared.Call.{Call}
use Rattle.call.specs.Limits.{call_is_sound}
use Rattle.call.specs.Services.{deep_peak, reserve}
use Rattle.units.specs.Month.{quarters_of, minutes_of}
use Rattle.book.specs.declared.Verdict.{Verdict}
use Rattle.book.specs.Book.{header_at, count_at, record_at, calls_of}
use Rattle.book.specs.Check.{accepted, check, header_minutes}
use Rattle.book.proofs.Judged.{zero_accepted}
use Rattle.pay.specs.declared.Member.{Member}
use Rattle.pay.specs.Member.{member_is_sound}
use Rattle.pay.specs.Window.{minute_pay, quarter_pay, quarter_at, window_pay}
use Rattle.pay.specs.Rate.{rated_pay}
use Rattle.pay.specs.Event.{called_up}
use Rattle.pay.specs.Live.{live_pay}
use Rattle.pay.proofs.Sums.{total_same}
use Rattle.score.specs.declared.answer.Score.{Score}
use Rattle.score.specs.declared.answer.Earned.{Earned}
use Rattle.score.specs.declared.answer.Earned.TheVariants.{Accepted, Refused}
use Rattle.score.specs.First.{first_nonzero}
use Rattle.score.specs.Series.{series_fault}
use Rattle.score.specs.Refusing.{refusal_at}
use Rattle.score.specs.Scoring.{is_own_live, pay_of, pay_at, month_grains, first_refused, records_earned, after, month_at, sound_earned, grains_earned, in_fen, scoring}
use Rattle.score.proofs.First.{first_le, first_all}
use Rattle.score.proofs.Checked.{all_sound}
use Rattle.reckon.specs.Reckoning.{is_window, walked, other_pay, other_at, reckoned_grains, records_reckoned, sound_reckoned, grains_reckoned, reckoning}
use Rattle.reckon.proofs.Sums.{total_plus}
use Rattle.reckon.proofs.Apart.{window_at, service_walked, deep_peak_has, reserve_has}

-- One record

-- service 1 goes by the rating alone: no power is called
deep_power : (m : Member) (a c : ℕ) (series : List ℕ) (start minutes : ℕ) → window_pay m deep_peak a series start minutes ≡ window_pay m deep_peak c series start minutes
unfolding window_pay quarter_at quarter_pay minute_pay
deep_power m a c series start minutes = total_same (quarter_at m deep_peak a series) (quarter_at m deep_peak c series) (start / 15) (minutes / 15) (λ i l. refl)

module _ (m : Member) (series : List ℕ) (x : Call) where
  abbrev window : ℕ → ℕ → ℕ
  window service a = window_pay m service a series x.start x.length

  -- a record pays as a window of 1, as one of 2, or by its rate
  pub three_ways : pay_of m series x
      ≡ cond (is_window m deep_peak x) (window x.service (called_up x.a)) 0
      + cond (is_window m reserve x) (window x.service (called_up x.a)) 0
      + other_pay m x
  unfolding pay_of live_pay is_window other_pay
  three_ways = go (is_own_live m x) (eqb x.service deep_peak) (eqb x.service reserve) refl refl
    where
      first : eqb x.service deep_peak ≡ true → window deep_peak 0 ≡ window x.service (called_up x.a)
      first e = rw (eqb-true x.service deep_peak e) (deep_power m 0 (called_up x.a) series x.start x.length)

      second : eqb x.service reserve ≡ true → window reserve (called_up x.a) ≡ window x.service (called_up x.a)
      second e = rw (eqb-true x.service reserve e) refl

      go : (o d r : Bool) → eqb x.service deep_peak ≡ d → eqb x.service reserve ≡ r
          → cond o (cond d (window deep_peak 0) (cond r (window reserve (called_up x.a)) (rated_pay m x))) 0
          ≡ cond (o && d) (window x.service (called_up x.a)) 0 + cond (o && r) (window x.service (called_up x.a)) 0 + cond (o && not (d || r)) (rated_pay m x) 0
      go false d r e f = refl
      go true true true e f = absurd (omega (arith, eqb-true x.service deep_peak e, eqb-true x.service reserve f))
      go true true false e f = omega (arith, first e)
      go true false true e f = omega (arith, second f)
      go true false false e f = omega arith

-- The month

module _ (m : Member) (b series : List ℕ) where
  abbrev book : ℕ → Call
  book = record_at b

  pays_at : (i : ℕ) → pay_at m series book i ≡ window_at m deep_peak series book i + window_at m reserve series book i + other_at m book i
  unfolding pay_at window_at other_at
  pays_at i = three_ways m series (book i)

  -- where no record is refused, the walks and the other services make the month's grains
  grains_same : check b ≡ accepted → ((k : ℕ) → k < count_at b → refusal_at (month_at b) m book k ≡ 0) → reckoned_grains m b series ≡ month_grains m series book (count_at b)
  unfolding reckoned_grains month_grains walked calls_of header_minutes
  grains_same ok clear =
      let n = count_at b in
      let minutes = minutes_of (header_at b).year (header_at b).month in
      let sound : (k : ℕ) → k < 0 + n → call_is_sound minutes (book k) ≡ true = λ k l. all_sound b ok k (omega arith) in
      let none : (k : ℕ) → k < 0 + n → refusal_at (month_at b) m book k ≡ 0 = λ k l. clear k (omega arith) in
      let first = service_walked m deep_peak series b (month_at b) minutes deep_peak_has 0 n sound none in
      let second = service_walked m reserve series b (month_at b) minutes reserve_has 0 n sound none in
      let both = total_plus (window_at m deep_peak series book) (window_at m reserve series book) (λ i. window_at m deep_peak series book i + window_at m reserve series book i) (λ i. refl) 0 n in
      let all = total_plus (λ i. window_at m deep_peak series book i + window_at m reserve series book i) (other_at m book) (pay_at m series book) pays_at 0 n in
      rw (first, second, all, both) refl

  abbrev first : ℕ
  first = first_refused (month_at b) m book (count_at b)

  -- the records in turn
  records_same : check b ≡ accepted → records_reckoned m b series ≡ records_earned (month_at b) m series book (count_at b)
  unfolding records_reckoned records_earned first_refused
  records_same ok = go (ltb first (count_at b)) refl
    where
      go : (t : Bool) → ltb first (count_at b) ≡ t
          → cond t (Refused (refusal_at (month_at b) m book first) first) (Accepted (record { 0 = reckoned_grains m b series }))
          ≡ cond t (Refused (refusal_at (month_at b) m book first) first) (Accepted (record { 0 = month_grains m series book (count_at b) }))
      go true e = refl
      go false e =
          let full : first_nonzero (refusal_at (month_at b) m book) (count_at b) ≡ count_at b = omega (arith, ltb-false first (count_at b) e, first_le (refusal_at (month_at b) m book) (count_at b)) in
          ap (λ (g : ℕ). Accepted (record { 0 = g })) (grains_same ok (first_all (refusal_at (month_at b) m book) (count_at b) full))

  after_same : (f : Verdict) (x y : Earned) → (f.number ≡ 0 → x ≡ y) → after f x ≡ after f y
  unfolding after
  after_same f x y h = go (eqb f.number 0) refl
    where
      go : (t : Bool) → eqb f.number 0 ≡ t → cond t x (Refused f.number f.place) ≡ cond t y (Refused f.number f.place)
      go true e = h (eqb-true _ _ e)
      go false e = refl

  -- the month before it is money
  pub both_earn : grains_reckoned m b series ≡ grains_earned m b series
  unfolding grains_reckoned grains_earned sound_reckoned sound_earned
  both_earn =
      ap (cond (not (member_is_sound m)) (Refused 10 0))
      (after_same (check b) (sound_reckoned m b series) (sound_earned m b series)
      (λ z. ap (after (series_fault series (quarters_of (header_at b).year (header_at b).month))) (records_same (zero_accepted b z))))

-- BOTH WAYS GIVE THE SAME ANSWER: number, place, grains and fen, on every register line, book and series, sound or not.
pub both_ways : (m : Member) (b series : List ℕ) → reckoning m b series ≡ scoring m b series
unfolding reckoning scoring
both_ways m b series = ap in_fen (both_earn m b series)

-- Two outcomes that the contract of `reckon` allows are one,
pub determined : (m : Member) (b series : List ℕ) (r s : Score) → r ≡ reckoning m b series → s ≡ reckoning m b series → r ≡ s
determined m b series r s p q = p ∙ sym q

-- and so are one of `reckon` and one of `score`.
pub one_answer : (m : Member) (b series : List ℕ) (r s : Score) → r ≡ reckoning m b series → s ≡ scoring m b series → r ≡ s
one_answer m b series r s p q = p ∙ both_ways m b series ∙ sym q
