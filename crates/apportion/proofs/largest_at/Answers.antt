use native.Mathlib.Omega.{arith}
use Rattle.apportion.proofs.Loops.{ahead_end}
use Rattle.apportion.proofs.largest_at.Goals as goal

pub returns-clause-value : goal.returns-clause-value
returns-clause-value c = ahead_end c.args.xs.now c.loop-i.best c.loop-i.i c.loop-i.invariant (omega arith)
