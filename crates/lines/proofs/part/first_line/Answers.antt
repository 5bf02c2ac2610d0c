use native.Mathlib.Omega.{arith}
use Rattle.lines.proofs.Parts.{left_step}
use Rattle.lines.proofs.part.first_line.Goals as goal

pub loop-next-preserved : goal.loop-next-preserved
loop-next-preserved c = left_step _ _ c.loop-next.row c.loop-next.next c.loop-next.invariant c.step-row.result (omega arith) c.if-b-eq10.false c.step-row.ensures
