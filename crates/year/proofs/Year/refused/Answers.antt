use Rattle.year.specs.Year.{year_refused}
use Rattle.year.proofs.Year.refused.Goals as goal

pub returns : goal.returns
unfolding year_refused
returns c = rw c.no_members-members.ensures
