use native.Mathlib.Omega.{arith}
use mathlib.Core.Path.{◌≡◌, sym, ap, ◌∙◌}
use Rattle.pay.specs.Inner.{coal_at}
use Rattle.pay.specs.Window.{coal_minute}
use Rattle.pay.proofs.Sums.{total_none, total_step}
use Rattle.pay.proofs.Runs.{coal_most, coal_run_most, run_length, run_at}
use Rattle.pay.proofs.window.run_coal.Goals as goal

pub loop-p-init : goal.loop-p-init
loop-p-init c = sym (total_none _ _)

pub overflow_add-sum : goal.overflow_add-sum
overflow_add-sum c =
    let l = c.loop-p in
    let a = c.args in
    omega (arith, run_length a.series.now a.from a.count c.requires.run.1, coal_run_most a.rated.0 a.top.0 a.series.now a.from l.p-index (omega arith), coal_most)

pub loop-p-preserved : goal.loop-p-preserved
unfolding coal_at
loop-p-preserved c =
    let l = c.loop-p in
    let a = c.args in
    total_step _ _ _ l.invariant (c.coal_minute-g.ensures ∙ ap (coal_minute a.rated.0 a.top.0) (run_at a.series.now a.from a.count l.p-index c.requires.run.1 c.loop-p-test.true))

pub overflow_mul-result : goal.overflow_mul-result
overflow_mul-result c =
    let l = c.loop-p in
    let a = c.args in
    omega (arith, run_length a.series.now a.from a.count c.requires.run.1, coal_run_most a.rated.0 a.top.0 a.series.now a.from l.p-index (omega arith))

pub returns : goal.returns
returns c =
    let l = c.loop-p in
    let a = c.args in
    let e : l.p-index ≡ a.count = omega (arith, run_length a.series.now a.from a.count c.requires.run.1) in
    rw (← e, l.invariant)
