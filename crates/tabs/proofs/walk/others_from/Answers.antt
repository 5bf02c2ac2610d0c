use mathlib.Core.Path.{◌≡◌, ◌∙◌, ap}
use Rattle.call.specs.Layout.{call_at}
use Rattle.join.proofs.Taken.{lies}
use Rattle.tabs.specs.Inner.{others_more}
use Rattle.tabs.proofs.Stretches.{in_book, others_next, spare}
use Rattle.tabs.proofs.walk.others_from.Goals as goal

pub state_at-requires : goal.state_at-requires
state_at-requires c = let g = c.loop-a.invariant.left in (lies g.from (in_book g c.loop-a-test.true)).long

pub loop-a-preserved : goal.loop-a-preserved
loop-a-preserved c =
    let t : c.more-t.result ≡ others_more c.loop-a.t (call_at c.args.b.now c.loop-a.a).state =
    c.more-t.ensures ∙ ap (others_more c.loop-a.t) c.state_at.ensures in
    rw t (others_next c.loop-a.invariant c.loop-a-test.true)

pub more-t-requires : goal.more-t-requires
more-t-requires c = spare c.loop-a.invariant
