use mathlib.Core.Path.{◌≡◌}
use Prim.Native.Nat.{◌+◌, ◌*◌, ◌≤◌}
use lib.ListN.{length}
use lib.Signed.{mag}
use Rattle.book.specs.Book.{record_at}
use Rattle.pay.specs.Sum.{total_z}
use Rattle.pay.specs.Inner.{most_wh}
use Rattle.score.specs.Scoring.{wh_at}
use Rattle.explain.specs.Explaining.{filled_up}
use Rattle.explain.specs.Inner.{parts_before}
use Rattle.explain.proofs.parts.parts_before.Given as goal

abbrev pub invariant-loop-i : goal.invariant-loop-i
invariant-loop-i l =
    (l.count ≡ length (parts_before l.member l.b l.series l.i))
    × (l.parts ≡ filled_up (parts_before l.member l.b l.series l.i))
    × (l.wh.0 ≡ total_z (wh_at l.member (record_at l.b)) l.i)
    × (mag l.wh.0 ≤ l.i * (most_wh + 1))
