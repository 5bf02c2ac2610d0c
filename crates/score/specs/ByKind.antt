-- Scoring as it was before a service ended with a month: what is open goes by the kind alone. Only what request 9 is held against; no contract cites it. Assumes nothing.
use Rattle.std.specs.Prelude.{◌≡◌, Bool, true, cond, not, ◌||◌, List, ◌⊎◌, ℕ, ◌<◌, eqb, ltb}
use Rattle.units.specs.Month.{quarters_of}
use Rattle.call.specs.declared.Call.{Call}
use Rattle.call.specs.Revising.{contested, withdrawn}
use Rattle.call.specs.Services.{deep_peak, reserve, start_stop, standby, black_start, agc_availability, agc_contribution, frequency_event, avc, stability_trip}
use Rattle.book.specs.Book.{header_at, count_at, record_at}
use Rattle.book.specs.Check.{check}
use Rattle.pay.specs.declared.Member.{Member}
use Rattle.pay.specs.declared.open.Month.{Month}
use Rattle.pay.specs.Kinds.{coal, gas, hydro, closed}
use Rattle.pay.specs.Member.{member_is_sound, has_availability}
use Rattle.pay.specs.Open.{reserve_open, event_open}
use Rattle.score.specs.declared.answer.Score.{Score}
use Rattle.score.specs.declared.answer.Earned.{Earned}
use Rattle.score.specs.declared.answer.Earned.TheVariants.{Accepted, Refused}
use Rattle.score.specs.First.{first_nonzero}
use Rattle.score.specs.Series.{series_fault}
use Rattle.score.specs.Refusing.{clash_before, number_of}
use Rattle.score.specs.Scoring.{month_grains, after, in_fen}

-- the paper's column of kinds, a row for each service: 5, 7, 9 and 10 to all kinds
unfoldable pub open_by_kind : Member → Call → Bool
open_by_kind m x =
    cond (eqb x.service deep_peak) (eqb m.kind coal)
    (cond (eqb x.service reserve) (reserve_open m.kind m.rated.0 x.a)
    (cond (eqb x.service start_stop) (eqb m.kind coal || eqb m.kind gas || eqb m.kind hydro)
    (cond (eqb x.service standby) (eqb m.kind coal)
    (cond (eqb x.service black_start) true
    (cond (eqb x.service agc_availability) (has_availability m.kind)
    (cond (eqb x.service agc_contribution) true
    (cond (eqb x.service frequency_event) (event_open m.kind x.a x.b)
    (cond (eqb x.service avc) true
    (cond (eqb x.service stability_trip) true
    closed)))))))))

-- the refusal of record i for a member, 0 where there is none: 14, 12, 13
unfoldable pub refusal_by_kind : Member → (ℕ → Call) → ℕ → ℕ
refusal_by_kind m book i =
    cond (not (eqb (book i).participant m.number)) 0
    (cond (eqb (book i).state withdrawn) 0
    (cond (eqb (book i).state contested) 14
    (number_of (open_by_kind m (book i)) (clash_before m.number (book i) book i))))

-- the first refusal among so many records, with its record, or the month's grains
unfoldable pub earned_by_kind : Member → List ℕ → (ℕ → Call) → ℕ → Earned
earned_by_kind m series book count =
    cond (ltb (first_nonzero (refusal_by_kind m book) count) count)
    (Refused (refusal_by_kind m book (first_nonzero (refusal_by_kind m book) count)) (first_nonzero (refusal_by_kind m book) count))
    (Accepted (record { 0 = month_grains m series book count }))

-- the score of one member: 10, the book, 11, the records
unfoldable pub scoring_by_kind : Member → List ℕ → List ℕ → Score
scoring_by_kind m b series =
    in_fen
    (cond (not (member_is_sound m)) (Refused 10 0)
    (after (check b)
    (after (series_fault series (quarters_of (header_at b).year (header_at b).month))
    (earned_by_kind m series (record_at b) (count_at b)))))

-- a month comes before another: it is of an earlier year, or of the same year and an earlier month
abbrev pub Before : Month → Month → Type 0
Before month other = (month.year < other.year) ⊎ (month.year ≡ other.year) × (month.month < other.month)
