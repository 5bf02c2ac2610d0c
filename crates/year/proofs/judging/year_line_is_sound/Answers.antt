use Rattle.year.specs.Year.{year_line_is_sound}
use Rattle.year.proofs.judging.year_line_is_sound.Goals as goal

pub returns : goal.returns
unfolding year_line_is_sound
returns c = rw (c.from.ensures, c.from-2.ensures, c.is_within.ensures, c.is_within-2.ensures)
