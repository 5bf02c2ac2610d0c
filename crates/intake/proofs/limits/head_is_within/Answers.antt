use Rattle.intake.specs.Limits.{head_is_within}
use Rattle.intake.proofs.limits.head_is_within.Goals as goal

pub returns : goal.returns
unfolding head_is_within
returns c = rw c.is_sound.ensures
