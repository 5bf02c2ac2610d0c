use native.Mathlib.Omega.{arith}
use Rattle.render.proofs.Placed.{and_then, looser}
use Rattle.intake.specs.Told.{other_text}
use Rattle.intake.proofs.told.put_other.Goals as goal

pub returns : goal.returns
unfolding other_text
returns c =
    looser _ (omega arith) (and_then (and_then c.put_field-a.ensures
    c.put_word-b.ensures) c.put_field.ensures)
