use mathlib.Core.Path.{◌≡◌}
use lib.ListN.{length, replicate}
use Rattle.apportion.proofs.Loops.{over}
use Rattle.ceiling.specs.Ceiling.{positives}
use Rattle.ceiling.specs.Inner.{parts_in}
use Rattle.ceiling.proofs.second.positives.Given as goal

abbrev pub invariant-loop-i : goal.invariant-loop-i
invariant-loop-i l = (length l.ps ≡ 64) × (l.ps ≡ over (replicate 64 0) (positives (parts_in l.shared)) l.i)
