use mathlib.Core.Path.{sym, ap, ◌∙◌}
use native.Mathlib.Omega.{arith}
use lib.ListN.{length, length-set}
use Rattle.apportion.proofs.Loops.{over_step, over_end}
use Rattle.share.specs.declared.Line.{Line}
use Rattle.share.specs.Sharing.{weight_of, weights_of}
use Rattle.share_bytes.specs.Inner.{spelt_lines}
use Rattle.share_bytes.proofs.Rows.{row_within, row_weight, length_row_weights}
use Rattle.share_bytes.proofs.weights_into.Goals as goal

pub weight_of-requires : goal.weight_of-requires
weight_of-requires c =
    rw c.fields_at-l.ensures (row_within c.args.s.now (length c.args.weights.now) c.loop-i.i c.requires.lines_within (omega (arith, c.loop-i.invariant.0))).energy

pub loop-i-preserved : goal.loop-i-preserved
loop-i-preserved c =
    let a = c.args in
    let n = length a.weights.now in
    let long = length_row_weights a.s.now n a.negative in
    let is = c.weight_of.ensures ∙ ap (λ (x : Line). weight_of a.negative x) c.fields_at-l.ensures in (
      simp length-set c.loop-i.invariant.0,
      over_step a.weights.now (weights_of a.negative (spelt_lines a.s.now n)) c.loop-i.weights c.loop-i.i 0 _ c.loop-i.invariant.1 (omega (arith, c.loop-i.invariant.0))
          (omega (arith, c.loop-i.invariant.0, long))
          (row_weight a.s.now n a.negative c.loop-i.i (omega (arith, c.loop-i.invariant.0)) ∙ sym is),
    )

pub returns : goal.returns
returns c =
    let a = c.args in
    let n = length a.weights.now in
    let long = length_row_weights a.s.now n a.negative in
    over_end a.weights.now (weights_of a.negative (spelt_lines a.s.now n)) c.loop-i.weights c.loop-i.i c.loop-i.invariant.1 (omega (arith, c.loop-i.invariant.0, long))
    (omega (arith, c.loop-i.invariant.0))
