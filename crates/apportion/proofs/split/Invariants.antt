use mathlib.Core.Path.{◌≡◌}
use lib.ListN.{length}
use Rattle.apportion.proofs.Loops.{over}
use Rattle.apportion.specs.Apportion.{rounded_down, remainders}
use Rattle.apportion.proofs.split.Given as goal

abbrev pub invariant-loop-i : goal.invariant-loop-i
invariant-loop-i l =
    (l.shares ≡ over l.initial.shares (rounded_down l.amount l.all l.weights) l.i) × (l.rests ≡ over l.initial.rests (remainders l.amount l.all l.weights) l.i)
    × (length l.shares ≡ length l.weights) × (length l.rests ≡ length l.weights)
