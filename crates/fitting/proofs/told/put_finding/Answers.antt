use mathlib.Core.Path.{sym, ap}
use native.Mathlib.Omega.{arith}
use Rattle.render.proofs.Placed.{looser, same_put, none_put}
use Rattle.fitting.specs.Told.{finding_text, most_finding}
use Rattle.fitting.proofs.told.put_finding.Goals as goal

pub returns-in-Ok : goal.returns-in-Ok
unfolding finding_text
returns-in-Ok c = same_put (sym (ap finding_text c.in-Ok.is)) (looser most_finding (omega arith) (none_put c.args.out.now 0))
