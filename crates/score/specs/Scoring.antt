-- Scoring one member: 10, the book, 11, then the member's records in turn; the month's grains, and fen from them. Assumes nothing.
use Rattle.std.specs.Prelude.{Bool, cond, not, ◌&&◌, List, ℕ, ◌+◌, eqb, ltb, ℤ, pos}
use Rattle.units.specs.Money.{grains_to_fen}
use Rattle.units.specs.Month.{quarters_of}
use Rattle.call.specs.declared.Call.{Call}
use Rattle.call.specs.Revising.{live}
use Rattle.book.specs.declared.Verdict.{Verdict}
use Rattle.book.specs.Book.{header_at, count_at, record_at}
use Rattle.book.specs.Check.{check}
use Rattle.pay.specs.declared.Member.{Member}
use Rattle.pay.specs.declared.open.Month.{Month}
use Rattle.pay.specs.Sum.{total, total_z}
use Rattle.pay.specs.Member.{member_is_sound}
use Rattle.pay.specs.Event.{energy_pay}
use Rattle.pay.specs.Live.{live_pay, live_wh}
use Rattle.score.specs.declared.answer.Score.{Score}
use Rattle.score.specs.declared.answer.Earned.{Earned}
use Rattle.score.specs.declared.answer.Earned.TheVariants.{Accepted, Refused}
use Rattle.score.specs.First.{first_nonzero}
use Rattle.score.specs.Series.{series_fault}
use Rattle.score.specs.Refusing.{refusal_at}

-- a live call of the member: what pays
unfoldable pub is_own_live : Member → Call → Bool
is_own_live m x = eqb x.participant m.number && eqb x.state live

-- grains of a record for the member, the energy of its event apart
unfoldable pub pay_of : Member → List ℕ → Call → ℕ
pay_of m series x = cond (is_own_live m x) (live_pay m series x) 0

-- energy of a record for the member
unfoldable pub wh_of : Member → Call → ℤ
wh_of m x = cond (is_own_live m x) (live_wh m.kind x) (pos 0)

-- the same of record i of a book
unfoldable pub pay_at : Member → List ℕ → (ℕ → Call) → ℕ → ℕ
pay_at m series book i = pay_of m series (book i)

unfoldable pub wh_at : Member → (ℕ → Call) → ℕ → ℤ
wh_at m book i = wh_of m (book i)

-- the month's grains: the records' pay, and the month's energy, clamped once
unfoldable pub month_grains : Member → List ℕ → (ℕ → Call) → ℕ → ℕ
month_grains m series book count = total (pay_at m series book) 0 count + energy_pay (total_z (wh_at m book) count)

-- the first record of so many that is refused, or the count
unfoldable pub first_refused : Month → Member → (ℕ → Call) → ℕ → ℕ
first_refused month m book count = first_nonzero (refusal_at month m book) count

-- the first refusal among so many records, with its record, or the month's grains
unfoldable pub records_earned : Month → Member → List ℕ → (ℕ → Call) → ℕ → Earned
records_earned month m series book count =
    cond (ltb (first_refused month m book count) count)
    (Refused (refusal_at month m book (first_refused month m book count)) (first_refused month m book count))
    (Accepted (record { 0 = month_grains m series book count }))

-- what a check found is the answer; where it found nothing, what comes after it is
unfoldable pub after : Verdict → Earned → Earned
after fault next = cond (eqb fault.number 0) next (Refused fault.number fault.place)

-- the month of a book
abbrev pub month_at : List ℕ → Month
month_at b = record { year = (header_at b).year; month = (header_at b).month }

-- over a sound book: the series, then the records
unfoldable pub sound_earned : Member → List ℕ → List ℕ → Earned
sound_earned m b series =
    after (series_fault series (quarters_of (header_at b).year (header_at b).month))
    (records_earned (month_at b) m series (record_at b) (count_at b))

-- the register line, the book, and the rest
unfoldable pub grains_earned : Member → List ℕ → List ℕ → Earned
grains_earned m b series =
    cond (not (member_is_sound m)) (Refused 10 0)
    (after (check b)
    (sound_earned m b series))

-- a refusal gives number and place, otherwise zeros
abbrev pub score_refused : ℕ → ℕ → Score
score_refused number place = record { number = number; place = place; grains = record { 0 = 0 }; fen = record { 0 = 0 } }

-- the paper's number, place, grains and fen; the grains become fen here, once
unfoldable pub in_fen : Earned → Score
in_fen (Accepted g) = record { number = 0; place = 0; grains = g; fen = record { 0 = grains_to_fen g.0 } }
in_fen (Refused number place) = score_refused number place

-- the score of one member
unfoldable pub scoring : Member → List ℕ → List ℕ → Score
scoring m b series = in_fen (grains_earned m b series)
