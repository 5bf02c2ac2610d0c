use mathlib.Core.Path.{◌∙◌}
use Rattle.lines.proofs.Sheets.{shared_yes, shared_no}
use Rattle.lines.proofs.Taken.shared.Goals as goal

pub returns-then-self-eq0 : goal.returns-then-self-eq0
returns-then-self-eq0 c = c.share_front.ensures ∙ shared_yes c.args.self c.if-self-eq0.true

pub returns : goal.returns
returns c = c.nothing_shared.ensures ∙ shared_no c.args.self c.if-self-eq0.false
