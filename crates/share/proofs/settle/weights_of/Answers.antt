use mathlib.Core.Path.{sym, ◌∙◌}
use native.Mathlib.Omega.{arith}
use lib.ListN.{length-set, length-map, replicate}
use Rattle.apportion.proofs.Loops.{over_step}
use Rattle.share.specs.Forms.{blank_line}
use Rattle.share.specs.Sharing.{weight_of, weights_of}
use Rattle.share.proofs.Lists.{get_d_mapped}
use Rattle.share.proofs.settle.weights_of.Goals as goal

pub loop-i-preserved : goal.loop-i-preserved
loop-i-preserved c =
    let ls = c.args.lines.now in
    let lw = length-map ls (λ l'. weight_of c.args.negative l') in (
      simp length-set c.loop-i.invariant.0,
      over_step (replicate 64 0) (weights_of c.args.negative ls) c.loop-i.ws c.loop-i.i 0 _ c.loop-i.invariant.1 (omega arith) (omega arith)
          (get_d_mapped (λ l'. weight_of c.args.negative l') ls c.loop-i.i blank_line 0 (omega arith) ∙ sym c.weight_of.ensures),
    )
