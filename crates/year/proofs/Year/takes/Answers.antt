use Rattle.year.specs.Every.{year_takes}
use Rattle.year.proofs.Year.takes.Goals as goal

pub returns : goal.returns
unfolding year_takes
returns c = rw c.statement_is_sound.ensures
