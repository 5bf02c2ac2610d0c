use mathlib.Core.Path.{ap}
use native.Mathlib.Omega.{arith}
use Rattle.share.specs.declared.Line.{Line}
use Rattle.share.specs.Sharing.{assessment_fen, compensated, assessed}
use Rattle.share_bytes.proofs.Rows.{row_step, row_end}
use Rattle.share_bytes.proofs.sums_at.Goals as goal

pub overflow_add-c : goal.overflow_add-c
overflow_add-c c =
    let e = ap compensated (row_step c.args.s.now c.args.count c.loop-i.i (omega arith)) in
    let f = ap (λ (x : Line). x.compensation.0) c.fields_at-l.ensures in
    record { fits = omega (arith, c.requires.count_bound, c.loop-i.invariant.0) }

pub overflow_add-a : goal.overflow_add-a
overflow_add-a c =
    let e = ap assessed (row_step c.args.s.now c.args.count c.loop-i.i (omega arith)) in
    let f = ap (λ (x : Line). assessment_fen x) c.fields_at-l.ensures in
    record { fits = omega (arith, c.to_fen-fen.ensures, c.requires.count_bound_2, c.loop-i.invariant.1) }

pub loop-i-preserved : goal.loop-i-preserved
loop-i-preserved c =
    let step = row_step c.args.s.now c.args.count c.loop-i.i (omega arith) in
    let e = ap compensated step in
    let f = ap assessed step in
    let g = ap (λ (x : Line). x.compensation.0) c.fields_at-l.ensures in
    let h = ap (λ (x : Line). assessment_fen x) c.fields_at-l.ensures in
    (omega (arith, e, g, c.loop-i.invariant.0), omega (arith, f, h, c.to_fen-fen.ensures, c.loop-i.invariant.1))

pub returns : goal.returns
returns c =
    let end = row_end c.args.s.now c.args.count c.loop-i.i (omega arith) in
    let e = ap compensated end in
    let f = ap assessed end in record {
      compensated_value = omega arith;
      assessed_value = omega arith;
    }
