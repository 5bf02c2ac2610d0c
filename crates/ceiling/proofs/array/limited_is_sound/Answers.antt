use Rattle.ceiling.specs.Ceiling.{limited_is_sound}
use Rattle.ceiling.proofs.array.limited_is_sound.Goals as goal

pub returns : goal.returns
unfolding limited_is_sound
returns c = rw (c.line_is_sound.ensures, c.limit_is_sound.ensures)
