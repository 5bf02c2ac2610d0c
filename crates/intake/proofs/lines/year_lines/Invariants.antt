use mathlib.Core.Path.{◌≡◌}
use lib.ListN.{length}
use Rattle.apportion.proofs.Loops.{over}
use Rattle.intake.specs.Intake.{year_lines}
use Rattle.intake.proofs.lines.year_lines.Given as goal

abbrev pub invariant-loop-i : goal.invariant-loop-i
invariant-loop-i l = (length l.lines ≡ 64) × (l.lines ≡ over l.initial.lines (year_lines l.fn.rows) l.i)
