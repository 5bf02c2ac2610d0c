use Rattle.ramp.specs.Ramping.{error_of}
use Rattle.ramp.proofs.actions.error_of.Goals as goal

pub returns : goal.returns
unfolding error_of
returns c = c.apart.ensures
