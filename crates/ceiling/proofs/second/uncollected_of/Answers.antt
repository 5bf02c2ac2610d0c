use mathlib.Core.Path.{ap, sym, ◌∙◌}
use native.Mathlib.Omega.{arith}
use lib.ListN.{length, take, drop, length-set, replicate}
use lib.Seq.{take_all, take_at}
use Rattle.apportion.proofs.Loops.{over_step}
use Rattle.ceiling.specs.Ceiling.{uncollected_of}
use Rattle.ceiling.specs.Inner.{parts_in}
use Rattle.ceiling.proofs.Places.{length_parts_in, length_uncollected, uncollected_of_lem}
use Rattle.ceiling.proofs.second.uncollected_of.Goals as goal

pub loop-i-preserved : goal.loop-i-preserved
loop-i-preserved c =
    let ls = c.args.lines.now in
    let ys = c.args.shared.now in
    let lu = length_uncollected ls (parts_in ys) (length_parts_in ys ∙ c.requires.each_shared) in (
      simp length-set c.loop-i.invariant.0,
      over_step (replicate 64 0) (uncollected_of ls (parts_in ys)) c.loop-i.us c.loop-i.i 0 _ c.loop-i.invariant.1 (omega arith) (omega arith)
          (uncollected_of_lem ls ys c.loop-i.i c.requires.each_shared (omega arith) ∙ sym c.beyond.ensures),
    )

pub returns : goal.returns
returns c =
    let ls = c.args.lines.now in
    let ys = c.args.shared.now in
    let w = uncollected_of ls (parts_in ys) in
    let lu = length_uncollected ls (parts_in ys) (length_parts_in ys ∙ c.requires.each_shared) in
    ap (take (length ls)) (c.loop-i.invariant.1 ∙ rw (take_all c.loop-i.i w (omega arith))) ∙ take_at w (drop c.loop-i.i (replicate 64 0)) (length ls) lu
