use mathlib.Core.Path.{◌≡◌}
use Prim.Native.Nat.{◌+◌, ◌*◌, ◌≤◌}
use lib.Signed.{mag}
use Rattle.book.specs.Book.{record_at}
use Rattle.pay.specs.Sum.{total, total_z}
use Rattle.pay.specs.Inner.{most_pay, most_wh}
use Rattle.score.specs.Scoring.{wh_at}
use Rattle.reckon.specs.Reckoning.{other_at}
use Rattle.reckon.proofs.others.others_earned.Given as goal

abbrev pub invariant-loop-i : goal.invariant-loop-i
invariant-loop-i l =
    (l.grains ≡ total (other_at l.member (record_at l.b)) 0 l.i)
    × (l.grains ≤ l.i * most_pay)
    × (l.wh.0 ≡ total_z (wh_at l.member (record_at l.b)) l.i)
    × (mag l.wh.0 ≤ l.i * (most_wh + 1))
