use mathlib.Core.Path.{◌∙◌}
use Rattle.names.proofs.Words.{same_is}
use Rattle.names.proofs.is_same.Goals as goal

pub returns : goal.returns
returns c = c.eq.ensures ∙ same_is c.args.text.now c.args.name.now
