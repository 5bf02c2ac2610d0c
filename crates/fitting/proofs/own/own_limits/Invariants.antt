use mathlib.Core.Path.{◌≡◌}
use lib.ListN.{length, take}
use Rattle.apportion.proofs.Loops.{over}
use Rattle.ceiling.specs.Inner.{parts_in}
use Rattle.fitting.specs.Fitting.{own_limits}
use Rattle.fitting.proofs.own.own_limits.Given as goal

abbrev pub invariant-loop-i : goal.invariant-loop-i
invariant-loop-i l =
    (length l.limited ≡ 64) × (l.limited ≡ over l.initial.limited (own_limits l.negative (take l.count l.rows) (parts_in (take l.count l.shared))) l.i)
