use mathlib.Core.Path.{◌≡◌}
use Rattle.apportion.proofs.Loops.{over}
use Rattle.share.specs.Forms.{clear}
use Rattle.share.proofs.settle.clear.Given as goal

abbrev pub invariant-loop-line : goal.invariant-loop-line
invariant-loop-line l = l.line-items ≡ over l.fn.lines (clear l.fn.lines) l.line-index
