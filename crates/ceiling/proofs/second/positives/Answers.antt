use mathlib.Core.Path.{sym, ◌∙◌}
use native.Mathlib.Omega.{arith}
use lib.ListN.{length-set, replicate}
use Rattle.apportion.proofs.Loops.{over_step}
use Rattle.ceiling.specs.Ceiling.{positives}
use Rattle.ceiling.specs.Inner.{parts_in}
use Rattle.ceiling.proofs.Places.{length_positives, positive_of}
use Rattle.ceiling.proofs.second.positives.Goals as goal

pub loop-i-preserved : goal.loop-i-preserved
loop-i-preserved c =
    let ys = c.args.shared.now in
    let lp = length_positives ys in (
      simp length-set c.loop-i.invariant.0,
      over_step (replicate 64 0) (positives (parts_in ys)) c.loop-i.ps c.loop-i.i 0 _ c.loop-i.invariant.1 (omega arith) (omega arith)
          (positive_of ys c.loop-i.i (omega arith) ∙ sym c.positive.ensures),
    )
