use mathlib.Core.Path.{◌∙◌}
use Rattle.year.proofs.Taking.{year_start}
use Rattle.year.proofs.Year.start.Goals as goal

pub returns : goal.returns
returns c = c.refused.ensures ∙ year_start
