use mathlib.Core.Path.{◌≡◌}
use lib.ListN.{length, replicate}
use Rattle.apportion.proofs.Loops.{over}
use Rattle.share.specs.Sharing.{weights_of}
use Rattle.share.proofs.settle.weights_of.Given as goal

abbrev pub invariant-loop-i : goal.invariant-loop-i
invariant-loop-i l = (length l.ws ≡ 64) × (l.ws ≡ over (replicate 64 0) (weights_of l.negative l.lines) l.i)
