use mathlib.Core.Path.{◌∙◌}
use Rattle.clock.proofs.Parts.{has_is}
use Rattle.clock.proofs.has.Goals as goal

pub returns : goal.returns
returns c = c.contains.ensures.value ∙ has_is c.args.mark c.args.text.now
