use mathlib.Core.Path.{◌≡◌}
use Prim.Native.Nat.{◌-◌}
use Rattle.lines.specs.Meaning.{row_line, zeros}
use Rattle.lines.proofs.line.best.Given as goal

abbrev pub invariant-loop-column : goal.invariant-loop-column
invariant-loop-column l = row_line l.row (zeros (4 - l._column)) ≡ row_line l.initial.row (zeros (4 - l.initial._column))
