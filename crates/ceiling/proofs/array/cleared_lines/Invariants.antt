use mathlib.Core.Path.{◌≡◌}
use Rattle.apportion.proofs.Loops.{over}
use Rattle.ceiling.specs.Forms.{cleared_lines}
use Rattle.ceiling.proofs.array.cleared_lines.Given as goal

abbrev pub invariant-loop-line : goal.invariant-loop-line
invariant-loop-line l = l.line-items ≡ over l.fn.lines (cleared_lines l.fn.lines) l.line-index
