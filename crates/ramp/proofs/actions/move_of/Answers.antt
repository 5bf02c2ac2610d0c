use Rattle.ramp.specs.Ramping.{move_of}
use Rattle.ramp.proofs.actions.move_of.Goals as goal

pub returns : goal.returns
unfolding move_of
returns c = c.apart.ensures
