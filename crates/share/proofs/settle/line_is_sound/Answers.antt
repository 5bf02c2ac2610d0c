use Rattle.share.specs.Sharing.{line_is_sound}
use Rattle.share.proofs.settle.line_is_sound.Goals as goal

pub returns : goal.returns
unfolding line_is_sound
returns c = c.numbers_are_sound.ensures
