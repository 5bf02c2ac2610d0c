use native.Mathlib.Omega.{arith}
use Rattle.render.proofs.Placed.{and_then, looser}
use Rattle.fitting.specs.Told.{not_shared_text}
use Rattle.fitting.proofs.told.put_not_shared.Goals as goal

pub returns : goal.returns
unfolding not_shared_text
returns c = looser _ (omega arith) (and_then c.put_field-a.ensures c.put_field.ensures)
