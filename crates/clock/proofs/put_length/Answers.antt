use native.Mathlib.Omega.{arith}
use Rattle.clock.proofs.Lengths.{in_minutes, in_hours, in_both}
use Rattle.render.proofs.Placed.{and_then, looser, same_put}
use Rattle.clock.proofs.put_length.Goals as goal

pub returns-then-minutes-lt60 : goal.returns-then-minutes-lt60
returns-then-minutes-lt60 c = same_put (in_minutes _ c.if-minutes-lt60.true) (looser 42 (omega arith) c.put_minutes.ensures)

pub returns-then-minutes-eq0 : goal.returns-then-minutes-eq0
returns-then-minutes-eq0 c =
    same_put (in_hours _ c.if-minutes-lt60.false c.if-minutes-eq0.true)
    (looser 42 (omega arith) c.put_hours.ensures)

pub returns : goal.returns
returns c =
    same_put (in_both _ c.if-minutes-lt60.false c.if-minutes-eq0.false)
    (and_then c.put_hours-next.ensures c.put_minutes-2.ensures)
