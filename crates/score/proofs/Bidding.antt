-- Black start goes to bidding (request 9): before its closing month scoring is the one without the rule, from it on no accepted score has one. Assumes nothing.
use mathlib.Core.Path.{◌≡◌, refl, sym, ◌∙◌, ap, fun_ext}
use mathlib.Core.Bool.{Bool, true, false, cond, not, ◌&&◌, ◌||◌}
use mathlib.Core.List.{List}
use mathlib.Core.Logic.{inl, inr}
use Prim.Native.Nat.{ℕ, ◌≤◌, ◌<◌}
use native.Mathlib.Omega.{arith}
use lib.Dec.{eqb, ltb}
use borrow.Author.Tests.{lt-ltb, eqb-true, ltb-true}
use Rattle.le.proofs.Tests.{holds_or_fails}
use Rattle.units.specs.Month.{quarters_of}
use Rattle.call.specs.declared.Call.{Call}
use Rattle.call.specs.Revising.{live}
use Rattle.call.specs.Services.{black_start}
use Rattle.book.specs.Book.{header_at, count_at, record_at}
use Rattle.book.specs.Check.{check}
use Rattle.pay.specs.declared.Member.{Member}
use Rattle.pay.specs.declared.open.Month.{Month}
use Rattle.pay.specs.Member.{member_is_sound}
use Rattle.pay.specs.Open.{is_before, closing_month, black_start_open, open_to}
use Rattle.score.specs.declared.answer.Score.{Score}
use Rattle.score.specs.declared.answer.Earned.{Earned}
use Rattle.score.specs.declared.answer.Earned.TheVariants.{Accepted, Refused}
use Rattle.score.specs.First.{first_nonzero}
use Rattle.score.specs.Series.{series_fault}
use Rattle.score.specs.Refusing.{refusal_at}
use Rattle.score.specs.Scoring.{month_grains, first_refused, records_earned, after, month_at, sound_earned, grains_earned, score_refused, in_fen, scoring}
use Rattle.score.specs.Outcomes.{Passes, other, gone, good, RecordsTurn, ScoreOutcome}
use Rattle.score.specs.Outcomes.{bad_line_lem, bad_book, bad_length, bad_value, is_contested_lem, not_open_lem, stands_against_lem, scored}
use Rattle.score.specs.ByKind.{open_by_kind, refusal_by_kind, earned_by_kind, scoring_by_kind, Before}
use Rattle.book.proofs.Judged.{zero_accepted}
use Rattle.score.proofs.Exact.{outcome, outcome_exact}

-- The closing month is January 2027: every month up to 2026 is before it, and none from 2027 on
pub up_to_2026 : (month : Month) → month.year ≤ 2026 → Before month closing_month
up_to_2026 month h = inl (omega arith)

pub from_2027 : (month : Month) → 2027 ≤ month.year → 1 ≤ month.month → Before month closing_month → ⊥
from_2027 month h g (inl l) = omega arith
from_2027 month h g (inr (e, l)) = omega arith

-- The test of a month, both ways

before_test : (month : Month) → Before month closing_month → black_start_open month ≡ true
unfolding black_start_open is_before
before_test month (inl l) = simp (lt-ltb _ _ l)
before_test month (inr (e, l)) = simp (e, lt-ltb _ _ l)

closed_test : (month : Month) → (Before month closing_month → ⊥) → black_start_open month ≡ false
unfolding black_start_open is_before
closed_test month h =
    go (ltb month.year closing_month.year) refl (eqb month.year closing_month.year) refl (ltb month.month closing_month.month) refl
  where
    go : (t : Bool) → ltb month.year closing_month.year ≡ t → (u : Bool) → eqb month.year closing_month.year ≡ u
        → (v : Bool) → ltb month.month closing_month.month ≡ v → (t || u && v) ≡ false
    go true p u q v r = absurd (h (inl (ltb-true _ _ p)))
    go false p false q v r = refl
    go false p true q false r = refl
    go false p true q true r = absurd (h (inr (eqb-true _ _ q, ltb-true _ _ r)))

-- Before the closing month

same_open : (month : Month) (m : Member) (x : Call) → black_start_open month ≡ true → open_to month m x ≡ open_by_kind m x
unfolding open_to open_by_kind
same_open month m x h = simp h

same_refusal : (month : Month) (m : Member) (book : ℕ → Call) → black_start_open month ≡ true → (i : ℕ) → refusal_at month m book i ≡ refusal_by_kind m book i
unfolding refusal_at refusal_by_kind
same_refusal month m book h i = rw (same_open month m (book i) h) refl

same_earned : (month : Month) (m : Member) (series : List ℕ) (book : ℕ → Call) (count : ℕ) → black_start_open month ≡ true
    → records_earned month m series book count ≡ earned_by_kind m series book count
unfolding records_earned first_refused earned_by_kind
same_earned month m series book count h = ap earned (fun_ext (same_refusal month m book h))
  where
    earned : (ℕ → ℕ) → Earned
    earned v = cond (ltb (first_nonzero v count) count) (Refused (v (first_nonzero v count)) (first_nonzero v count)) (Accepted (record { 0 = month_grains m series book count }))

-- BEFORE JANUARY 2027 NOTHING CHANGES: for every member, book and series of a month before it number, place, grains and fen are those without the rule.
pub as_before : (m : Member) (b series : List ℕ) → Before (month_at b) closing_month → scoring m b series ≡ scoring_by_kind m b series
unfolding scoring scoring_by_kind grains_earned sound_earned
as_before m b series h = ap answer (same_earned (month_at b) m series (record_at b) (count_at b) (before_test (month_at b) h))
  where
    answer : Earned → Score
    answer e = in_fen (cond (not (member_is_sound m)) (Refused 10 0) (after (check b) (after (series_fault series (quarters_of (header_at b).year (header_at b).month)) e)))

-- From it on

shut : (month : Month) (m : Member) (x : Call) → (Before month closing_month → ⊥) → x.service ≡ black_start → open_to month m x ≡ false
unfolding open_to
shut month m x h e = simp (e, closed_test month h)

-- 12 AT THE RECORD, FOR EVERY KIND: a live black start whose turn it is, in a month that is not before the closing month.
pub turned_away_lem : (m : Member) (b series : List ℕ) (i : ℕ) → (Before (month_at b) closing_month → ⊥) → RecordsTurn m b series i
    → (record_at b i).state ≡ live → (record_at b i).service ≡ black_start → scoring m b series ≡ score_refused 12 i
turned_away_lem m b series i h t l s =
    sym ((outcome_exact m b series (score_refused 12 i)).1 (not_open_lem i refl t l (λ o. holds_or_fails o (shut (month_at b) m (record_at b i) h s))))

-- FROM JANUARY 2027 ON no accepted score has a live black start of the member.
pub no_black_start : (m : Member) (b series : List ℕ) → (Before (month_at b) closing_month → ⊥) → (scoring m b series).number ≡ 0
    → (i : ℕ) → i < count_at b → (record_at b i).participant ≡ m.number → (record_at b i).state ≡ live → (record_at b i).service ≡ black_start → ⊥
no_black_start m b series h z i c p l s = row (outcome m b series)
  where
    number : {r q : Score} → r ≡ q → r.number ≡ q.number
    number e = ap (λ (x : Score). x.number) e

    pass : Passes (month_at b) m (record_at b) i → ⊥
    pass (other n) = n p
    pass (gone q w) = omega (arith, l, w)
    pass (good q w o n) = holds_or_fails o (shut (month_at b) m (record_at b i) h s)

    row : ScoreOutcome m b series (scoring m b series) → ⊥
    row (bad_line_lem e n) = omega (arith, number e, z)
    row (bad_book e w n) = n (zero_accepted b (sym (number e) ∙ z))
    row (bad_length e f n) = omega (arith, number e, z)
    row (bad_value j e f w g y x) = omega (arith, number e, z)
    row (is_contested_lem j e t q) = omega (arith, number e, z)
    row (not_open_lem j e t q n) = omega (arith, number e, z)
    row (stands_against_lem j k e t q o g a) = omega (arith, number e, z)
    row (scored g e ready clear d) = pass (clear i c)
