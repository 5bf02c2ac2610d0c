use mathlib.Core.Path.{sym, ap}
use native.Mathlib.Omega.{arith}
use Rattle.render.proofs.Placed.{looser, same_put, none_put}
use Rattle.intake.specs.Told.{reason_text, most_reason}
use Rattle.intake.proofs.told.put_reason.Goals as goal

pub returns-in-None : goal.returns-in-None
unfolding reason_text
returns-in-None c =
    let a = c.args in
    same_put (sym (ap (reason_text (a.area) (a.year) (a.month)) (c.in-None.is))) (looser most_reason (omega arith) (none_put (a.out.now) 0))
