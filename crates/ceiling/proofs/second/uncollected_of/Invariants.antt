use mathlib.Core.Path.{◌≡◌}
use lib.ListN.{length, replicate}
use Rattle.apportion.proofs.Loops.{over}
use Rattle.ceiling.specs.Ceiling.{uncollected_of}
use Rattle.ceiling.specs.Inner.{parts_in}
use Rattle.ceiling.proofs.second.uncollected_of.Given as goal

abbrev pub invariant-loop-i : goal.invariant-loop-i
invariant-loop-i l = (length l.us ≡ 64) × (l.us ≡ over (replicate 64 0) (uncollected_of l.lines (parts_in l.shared)) l.i)
