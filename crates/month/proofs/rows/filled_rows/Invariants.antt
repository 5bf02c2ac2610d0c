use mathlib.Core.Path.{◌≡◌}
use lib.ListN.{length, take}
use Rattle.apportion.proofs.Loops.{over}
use Rattle.month.specs.Inner.{rows_in}
use Rattle.month.proofs.rows.filled_rows.Given as goal

abbrev pub invariant-loop-i : goal.invariant-loop-i
invariant-loop-i l = (length l.rows ≡ 64) × (l.rows ≡ over l.initial.rows (rows_in l.negative (take l.count l.lines) (take l.count l.grains) l.ramped) l.i)
