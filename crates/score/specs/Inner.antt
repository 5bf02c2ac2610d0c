-- What inner contracts speak of, and no sentence of the paper. Assumes nothing.
use Rattle.std.specs.Prelude.{◌≡◌, Bool, true, cond, ◌&&◌, List, ℕ, zero, suc, ◌+◌, ◌*◌, ◌<◌, ◌≤◌, eqb, ltb, leb, ℤ, length, get_or, set}
use Rattle.std.specs.Int.Signed.{mag}
use Rattle.units.specs.Month.{most_quarters}
use Rattle.call.specs.declared.Call.{Call}
use Rattle.call.specs.Limits.{call_is_sound}
use Rattle.call.specs.Revising.{live, contested}
use Rattle.call.specs.Services.{standby}
use Rattle.book.specs.Book.{record_at}
use Rattle.pay.specs.declared.Member.{Member}
use Rattle.pay.specs.declared.open.Month.{Month}
use Rattle.pay.specs.Member.{most_rated}
use Rattle.pay.specs.Inner.{most_pay, most_wh}
use Rattle.score.specs.Refusing.{refusal_at}
use Rattle.score.specs.Scoring.{pay_at, wh_at}

-- the rating and the series are small enough for every sum
abbrev pub Small : Member → List ℕ → Type 0
Small m series = (m.rated.0 ≤ most_rated) × (length series ≤ most_quarters)

-- record i is sound in the month that the series spans
abbrev pub RecordIsSound : List ℕ → List ℕ → ℕ → Type 0
RecordIsSound b series i = call_is_sound (15 * length series) (record_at b i) ≡ true

-- none of the records before record n is the member's
abbrev pub NoneBefore : ℕ → (ℕ → Call) → ℕ → Type 0
NoneBefore number book n = (k : ℕ) → k < n → (book k).participant ≡ number → ⊥

-- the refusal of a record that is not a live one of the member: 14 where it is the member's and contested
unfoldable pub idle_refusal : ℕ → Call → ℕ
idle_refusal number x = cond (eqb x.participant number && eqb x.state contested) 14 0

-- the later of two minutes
unfoldable pub later : ℕ → ℕ → ℕ
later from to = cond (ltb from to) to from

-- the minute at which y ends where it is a live call of the member and of that service, otherwise 0
unfoldable pub end_of : ℕ → ℕ → Call → ℕ
end_of number service y =
    cond (eqb y.participant number && eqb y.state live && eqb y.service service) (y.start + y.length) 0

-- the latest end of the member's live calls of that service among the first i records, 0 where there are none
unfoldable pub latest_end : ℕ → ℕ → (ℕ → Call) → ℕ → ℕ
latest_end number service book zero = 0
latest_end number service book (suc i) = later (latest_end number service book i) (end_of number service (book i))

-- what the walk keeps: of services 1 to 4, whose calls must not overlap, the latest end among the first i records, each at its service's number
pub record EndsKept (number : ℕ) (book : ℕ → Call) (i : ℕ) (ends : List ℕ) : Type 0 where
  pub room : standby < length ends
  pub latest : (service : ℕ) → service ≤ standby → get_or ends service 0 ≡ latest_end number service book i

-- the latest ends with the end of x among them
unfoldable pub with_end : Call → List ℕ → List ℕ
with_end x ends = cond (leb x.service standby) (set ends x.service (later (get_or ends x.service 0) (x.start + x.length))) ends

-- x is of a service whose calls must not overlap, and starts no earlier than its latest end
unfoldable pub starts_after : Call → List ℕ → Bool
starts_after x ends = leb x.service standby && leb (get_or ends x.service 0) x.start

-- what the turn of record i gives: its refusal, or 0 and its grains and energy, which are within bounds
pub record ScoreTurned (month : Month) (m : Member) (series : List ℕ) (book : ℕ → Call) (i number grains : ℕ) (wh : ℤ) : Type 0 where
  pub refusal : number ≡ refusal_at month m book i
  pub pays : number ≡ 0 → grains ≡ pay_at m series book i
  pub energy : number ≡ 0 → wh ≡ wh_at m book i
  pub most : grains ≤ most_pay
  pub span : mag wh ≤ most_wh
