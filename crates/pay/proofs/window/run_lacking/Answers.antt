use native.Mathlib.Omega.{arith}
use mathlib.Core.Path.{◌≡◌, sym, ap, ◌∙◌}
use Rattle.pay.specs.Inner.{lacking_at}
use Rattle.pay.specs.Window.{lacking}
use Rattle.pay.proofs.Sums.{total_none, total_step}
use Rattle.pay.proofs.Runs.{lacking_run_most, run_length, run_at}
use Rattle.pay.proofs.Bounds.{lacking_most}
use Rattle.pay.proofs.window.run_lacking.Goals as goal

pub loop-p-init : goal.loop-p-init
loop-p-init c = sym (total_none _ _)

pub overflow_add-sum : goal.overflow_add-sum
overflow_add-sum c =
    let l = c.loop-p in
    let a = c.args in
    omega (arith, run_length a.series.now a.from a.count c.requires.run.1, lacking_run_most a.level.0 a.series.now a.from l.p-index (omega arith), lacking_most)

pub loop-p-preserved : goal.loop-p-preserved
unfolding lacking_at
loop-p-preserved c =
    let l = c.loop-p in
    let a = c.args in
    total_step _ _ _ l.invariant (c.lacking-short.ensures ∙ ap (lacking a.level.0) (run_at a.series.now a.from a.count l.p-index c.requires.run.1 c.loop-p-test.true))

pub returns : goal.returns
returns c =
    let l = c.loop-p in
    let a = c.args in
    let e : l.p-index ≡ a.count = omega (arith, run_length a.series.now a.from a.count c.requires.run.1) in
    (rw (← e) l.invariant, omega (arith, lacking_run_most a.level.0 a.series.now a.from l.p-index (omega arith)))
