use mathlib.Core.Path.{◌≡◌}
use Prim.Native.Nat.{◌+◌, ◌*◌, ◌≤◌}
use Rattle.score.specs.First.{first_nonzero}
use Rattle.score.specs.Refusing.{refusal_at}
use Rattle.score.specs.Scoring.{pay_at, wh_at}
use Rattle.score.specs.Inner.{EndsKept}
use Rattle.book.specs.Book.{record_at}
use lib.Signed.{mag}
use Rattle.pay.specs.Sum.{total, total_z}
use Rattle.pay.specs.Inner.{most_pay, most_wh}
use Rattle.score.proofs.records.records_earned.Given as goal

abbrev pub invariant-loop-i : goal.invariant-loop-i
invariant-loop-i l =
    (l.i ≤ l.count)
    × (first_nonzero (refusal_at l.month l.member (record_at l.b)) l.i ≡ l.i)
    × (l.grains ≡ total (pay_at l.member l.series (record_at l.b)) 0 l.i)
    × (l.grains ≤ l.i * most_pay)
    × (l.wh.0 ≡ total_z (wh_at l.member (record_at l.b)) l.i)
    × (mag l.wh.0 ≤ l.i * (most_wh + 1))
    × EndsKept l.member.number (record_at l.b) l.i l.ends
