use mathlib.Core.Path.{◌≡◌}
use lib.ListN.{length}
use Rattle.apportion.proofs.Loops.{over}
use Rattle.fitting.specs.Fitting.{own_lines}
use Rattle.fitting.proofs.own.own_lines.Given as goal

abbrev pub invariant-loop-i : goal.invariant-loop-i
invariant-loop-i l = (length l.lines ≡ 64) × (l.lines ≡ over l.initial.lines (own_lines l.negative l.fn.rows) l.i)
