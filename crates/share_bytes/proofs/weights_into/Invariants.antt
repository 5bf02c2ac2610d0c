use mathlib.Core.Path.{◌≡◌}
use lib.ListN.{length}
use Rattle.apportion.proofs.Loops.{over}
use Rattle.share.specs.Sharing.{weights_of}
use Rattle.share_bytes.specs.Inner.{spelt_lines}
use Rattle.share_bytes.proofs.weights_into.Given as goal

abbrev pub invariant-loop-i : goal.invariant-loop-i
invariant-loop-i l =
    (length l.weights ≡ length l.initial.weights) × (l.weights ≡ over l.initial.weights (weights_of l.negative (spelt_lines l.s (length l.initial.weights))) l.i)
