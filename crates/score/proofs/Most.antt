-- The most grains that a score has: with a month's ramping hours they stay below the top of 64 bits. Assumes nothing.
use mathlib.Core.Path.{◌≡◌, refl, sym, ap, ◌∙◌}
use mathlib.Core.Bool.{Bool, true, false, cond}
use mathlib.Core.List.{List}
use Prim.Native.Nat.{ℕ, zero, suc, ◌+◌, ◌*◌, ◌≤◌, ◌<◌}
use native.Mathlib.Omega.{arith}
use lib.Dec.{eqb}
use lib.IntN.{pos}
use borrow.Author.Tests.{eqb-true}
use Rattle.units.specs.Money.{grains_plus}
use Rattle.units.proofs.Laws.{plus_sum}
use Rattle.call.specs.declared.Call.{Call}
use Rattle.call.specs.Limits.{call_is_sound}
use Rattle.call.specs.Services.{frequency_event, most_moved}
use Rattle.book.specs.Book.{most_keys, header_at, count_at, record_at}
use Rattle.book.specs.Check.{header_minutes}
use Rattle.book.proofs.Exact.{accepted_few}
use Rattle.book.proofs.Judged.{zero_accepted}
use Rattle.pay.specs.declared.Member.{Member}
use Rattle.pay.specs.Sum.{total, total_z}
use Rattle.pay.specs.Member.{is_by_rate}
use Rattle.pay.specs.Event.{event_wh, clamp, energy_pay}
use Rattle.pay.specs.Live.{live_wh}
use Rattle.pay.specs.Inner.{most_pay}
use Rattle.pay.proofs.Sums.{total_none, total0_suc, total_z_none, total_z_suc}
use Rattle.pay.proofs.Signed.{event_clamp, clamp_plus}
use Rattle.pay.proofs.Bounds.{cond_most, moved_most, live_most}
use Rattle.score.specs.declared.answer.Score.{Score}
use Rattle.score.specs.Scoring.{is_own_live, pay_of, wh_of, pay_at, wh_at, month_grains, scoring}
use Rattle.score.specs.Outcomes.{Ready, ScoreOutcome, bad_line_lem, bad_book, bad_length, bad_value, is_contested_lem, not_open_lem, stands_against_lem, scored}
use Rattle.score.proofs.Checked.{all_sound, spans_month}
use Rattle.score.proofs.Exact.{outcome}

-- 2,000 calls at the most that one pays, and as many events of 1,000,000,000 Wh at 120,000 grains each
abbrev pub most_score : ℕ
most_score = 8240000000000000000

-- the most that one ramping hour pays, and the 744 hours of a month
abbrev pub most_hour : ℕ
most_hour = 1630800000000000

abbrev pub most_ramping : ℕ
most_ramping = 744 * most_hour

-- no event of a sound call counts for more than may be moved
wh_most : (m : Member) (minutes : ℕ) (x : Call) → call_is_sound minutes x ≡ true → clamp (wh_of m x) ≤ most_moved
unfolding wh_of live_wh clamp
wh_most m minutes x h = go (is_own_live m x) (eqb x.service frequency_event) (is_by_rate m.kind) refl
  where
    go : (s t u : Bool) → eqb x.service frequency_event ≡ t → clamp (cond s (cond t (cond u (pos 0) (event_wh x.a x.b x.c)) (pos 0)) (pos 0)) ≤ most_moved
    go false t u e = omega arith
    go true false u e = omega arith
    go true true true e = omega arith
    go true true false e = event_clamp x.a x.b x.c most_moved (moved_most minutes x h (eqb-true _ _ e))

module _ (m : Member) (b series : List ℕ) (ready : Ready m b series) where
  minutes : ℕ
  minutes = header_minutes (header_at b)

  short : minutes ≤ 44640
  unfolding minutes
  short = let s = spans_month b series ready.spans in omega (arith, s.0, s.1)

  is_sound_lem : (i : ℕ) → i < count_at b → call_is_sound minutes (record_at b i) ≡ true
  unfolding minutes
  is_sound_lem i l = all_sound b ready.front.book i l

  few : count_at b ≤ most_keys
  few = accepted_few b ready.front.book

  pay_most : (i : ℕ) → i < count_at b → pay_at m series (record_at b) i ≤ most_pay
  unfolding pay_at pay_of
  pay_most i l = cond_most (is_own_live m (record_at b i)) (live_most minutes (record_at b i) (is_sound_lem i l) m series ready.front.line.rated.1 short) (omega arith)

  grains_most : (n : ℕ) → n ≤ count_at b → total (pay_at m series (record_at b)) 0 n ≤ n * most_pay
  grains_most zero l = omega (arith, total_none (pay_at m series (record_at b)) 0)
  grains_most (suc n) l = omega (arith, total0_suc (pay_at m series (record_at b)) n, grains_most n (omega arith), pay_most n (omega arith))

  energy_most : (n : ℕ) → n ≤ count_at b → clamp (total_z (wh_at m (record_at b)) n) ≤ n * most_moved
  unfolding wh_at clamp
  energy_most zero l = rw (total_z_none (wh_at m (record_at b))) (omega arith)
  energy_most (suc n) l =
      rw (total_z_suc (wh_at m (record_at b)) n)
      (omega (arith, clamp_plus (total_z (wh_at m (record_at b)) n) (wh_at m (record_at b) n), energy_most n (omega arith), wh_most m minutes (record_at b n) (is_sound_lem n (omega arith))))

  pub month_most : month_grains m series (record_at b) (count_at b) ≤ most_score
  unfolding month_grains energy_pay
  month_most = omega (arith, few, grains_most (count_at b) (omega arith), energy_most (count_at b) (omega arith))

module _ (m : Member) (b series : List ℕ) (z : (scoring m b series).number ≡ 0) where
  -- No score has more grains.
  pub score_most : (scoring m b series).grains.0 ≤ most_score
  score_most = go (outcome m b series)
    where
      number : (r : Score) → scoring m b series ≡ r → r.number ≡ 0
      number r e = sym (ap (λ (s : Score). s.number) e) ∙ z

      go : ScoreOutcome m b series (scoring m b series) → (scoring m b series).grains.0 ≤ most_score
      go (bad_line_lem e l) = absurd (omega (arith, number _ e))
      go (bad_book e l f) = absurd (f (zero_accepted b (number _ e)))
      go (bad_length e l f) = absurd (omega (arith, number _ e))
      go (bad_value i e l s h v w) = absurd (omega (arith, number _ e))
      go (is_contested_lem i e t s) = absurd (omega (arith, number _ e))
      go (not_open_lem i e t s f) = absurd (omega (arith, number _ e))
      go (stands_against_lem i j e t s o h a) = absurd (omega (arith, number _ e))
      go (scored g e r c is) = rw (e, is) (month_most m b series r)

  -- A score and a month's ramping hours never reach the top of 64 bits: their grains together are the sum.
  pub hours_fit : (hours : ℕ) → hours ≤ most_ramping → grains_plus (scoring m b series).grains.0 hours ≡ (scoring m b series).grains.0 + hours
  hours_fit hours l = plus_sum (scoring m b series).grains.0 hours (omega (arith, score_most))
