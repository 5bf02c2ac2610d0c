use mathlib.Core.Path.{◌≡◌}
use Rattle.apportion.proofs.Loops.{over}
use Rattle.ceiling.specs.Ceiling.{ceiled_by}
use Rattle.ceiling.specs.Forms.{ceiled_lines}
use Rattle.ceiling.specs.Inner.{parts_in}
use Rattle.ceiling.proofs.second.ceiled_lines.Given as goal

abbrev pub invariant-loop-i : goal.invariant-loop-i
invariant-loop-i l = l.lines ≡ over l.initial.lines (ceiled_lines (ceiled_by (parts_in l.shared) l.us l.gs) l.initial.lines) l.i
