use native.Mathlib.Omega.{arith}
use mathlib.Core.Path.{refl}
use Prim.Native.Nat.{◌/◌}
use Rattle.product.specs.Inner.{whole}
use Rattle.product.proofs.Laws.{half_even, half_odd}
use Rattle.product.proofs.next.Goals as goal

pub returns-then-g-eq0 : goal.returns-then-g-eq0
returns-then-g-eq0 c =
    let g = c.args.g in
    let all = c.args.all in
    let twice = c.plus-step.ensures in
    record {
      same = half_even g.left (g.left / 2) (whole all g.step) (whole all c.plus-step.result) (whole all g.done) (omega (arith, c.if-g-eq0.true)) twice.sum;
      half = refl;
      done_small = c.requires.goes.done_small;
      step_small = twice.small;
    }

pub returns : goal.returns
returns c =
    let g = c.args.g in
    let all = c.args.all in
    let twice = c.plus-step.ensures in
    let more = c.plus-more.ensures in
    record {
      same =
          half_odd g.left (g.left / 2) (whole all g.step) (whole all c.plus-step.result) (whole all g.done) (whole all c.plus-more.result)
          (omega (arith, c.if-g-eq0.false)) twice.sum more.sum;
      half = refl;
      done_small = more.small;
      step_small = twice.small;
    }
