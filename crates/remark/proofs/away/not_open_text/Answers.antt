use mathlib.Core.Path.{refl}
use Rattle.remark.specs.Forms.{not_open_form}
use Rattle.remark.proofs.Cases.{same_said}
use Rattle.remark.proofs.away.not_open_text.Goals as goal

pub returns-clause-renders : goal.returns-clause-renders
returns-clause-renders c = (same_said not_open_form refl c.not_open_values-values.ensures (c.say.ensures.renders, c.say.ensures.prefix_len)).0
