use mathlib.Core.Path.{◌≡◌}
use lib.ListN.{length}
use Rattle.apportion.proofs.Loops.{over}
use Rattle.month.specs.Settling.{compensations}
use Rattle.month.proofs.members.compensations.Given as goal

abbrev pub invariant-loop-i : goal.invariant-loop-i
invariant-loop-i l = (length l.fens ≡ 64) × (l.fens ≡ over l.initial.fens (compensations l.fn.grains) l.i)
