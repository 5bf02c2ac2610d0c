use native.Mathlib.Omega.{arith}
use Rattle.render.proofs.Placed.{and_then, looser}
use Rattle.intake.specs.Told.{not_later_text}
use Rattle.intake.proofs.told.put_not_later.Goals as goal

pub returns : goal.returns
unfolding not_later_text
returns c =
    looser _ (omega arith) (and_then (and_then c.put_month-a.ensures
    c.put_word-b.ensures) c.put_month.ensures)
