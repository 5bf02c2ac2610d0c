use mathlib.Core.Path.{refl}
use native.Mathlib.Omega.{arith}
use Rattle.tabs.proofs.Bringing.{bring_starts, bring_over}
use Rattle.tabs.proofs.forward.count_in.Goals as goal

pub loop-b-init : goal.loop-b-init
loop-b-init c = (bring_starts _ _ _ c.requires.accepted c.requires.accepted_2 c.requires.counts_of, refl, refl)

pub returns : goal.returns
returns c =
    let g = c.loop-b.invariant in
    bring_over _ _ _ c.requires.accepted c.requires.accepted_2 c.requires.counts_of g.0 g.1 g.2 (omega (arith, c.loop-b-test.false))
