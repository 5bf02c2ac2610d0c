use mathlib.Core.Path.{◌≡◌}
use lib.ListN.{length}
use Rattle.apportion.proofs.Loops.{over}
use Rattle.ceiling.specs.Ceiling.{plain_lines}
use Rattle.ceiling.proofs.array.plain_lines.Given as goal

abbrev pub invariant-loop-i : goal.invariant-loop-i
invariant-loop-i l = (length l.out ≡ 64) × (l.out ≡ over l.initial.out (plain_lines l.lines) l.i)
