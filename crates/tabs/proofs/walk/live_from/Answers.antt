use mathlib.Core.Path.{◌≡◌, sym, ◌∙◌}
use mathlib.Core.Bool.{true}
use native.Mathlib.Omega.{arith}
use Rattle.tabs.specs.Inner.{live_pair}
use Rattle.tabs.proofs.Stretches.{end_few, pair_is, live_next}
use Rattle.tabs.proofs.walk.live_from.Goals as goal

pub overflow_add-a : goal.overflow_add-a
overflow_add-a c =
    let next : let s = c.args in live_pair s.b.now c.loop-a.a s.end ≡ true =
    sym c.live_pair.ensures ∙ c.loop-a-test.true in
    let g = c.loop-a.invariant in
    omega (arith, (pair_is g next).0, end_few g.left)

pub loop-a-smaller : goal.loop-a-smaller
loop-a-smaller c =
    let next : let s = c.args in live_pair s.b.now c.loop-a.a s.end ≡ true =
    sym c.live_pair.ensures ∙ c.loop-a-test.true in
    omega (arith, (pair_is c.loop-a.invariant next).0)

pub loop-a-preserved : goal.loop-a-preserved
loop-a-preserved c =
    let next : let s = c.args in live_pair s.b.now c.loop-a.a s.end ≡ true =
    sym c.live_pair.ensures ∙ c.loop-a-test.true in
    live_next c.loop-a.invariant next
