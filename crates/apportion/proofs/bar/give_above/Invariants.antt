use mathlib.Core.Path.{◌≡◌}
use lib.ListN.{length}
use Rattle.apportion.specs.Bar.{strike_above, give_above}
use Rattle.apportion.proofs.Loops.{over}
use Rattle.apportion.proofs.bar.give_above.Given as goal

abbrev pub invariant-loop-i : goal.invariant-loop-i
invariant-loop-i l =
    (l.rests ≡ over l.initial.rests (strike_above l.bar l.initial.rests) l.i)
    × (l.shares ≡ over l.initial.shares (give_above l.bar l.initial.rests l.initial.shares) l.i)
    × (length l.rests ≡ length l.initial.rests) × (length l.shares ≡ length l.initial.shares)
