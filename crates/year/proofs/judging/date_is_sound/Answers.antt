use borrow.Author.Rules.{rules}
use Rattle.year.specs.Year.{date_is_sound}
use Rattle.year.proofs.judging.date_is_sound.Goals as goal

pub returns : goal.returns
unfolding date_is_sound
returns c = search rules
