use Rattle.clock.specs.Clock.{clock_text}
use Rattle.render.proofs.Placed.{and_then}
use Rattle.clock.proofs.put_clock.Goals as goal

pub returns : goal.returns
unfolding clock_text
returns c =
    and_then (and_then c.put_two-a.ensures
    c.put_word-b.ensures) c.put_two.ensures
