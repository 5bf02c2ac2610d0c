use Rattle.ramp.specs.Inner.{takes_action}
use Rattle.ramp.proofs.so_far.HourSoFar.takes.Goals as goal

pub returns : goal.returns
unfolding takes_action
returns c = rw (c.action_is_sound-sound.ensures, c.standard_with-standard.ensures)
