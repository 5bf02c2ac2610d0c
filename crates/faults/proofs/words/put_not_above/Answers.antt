use Rattle.std.proofs.Common.{arith}
use Rattle.render.proofs.Placed.{and_then, looser}
use Rattle.faults.specs.Words.{not_above_text}
use Rattle.faults.proofs.words.put_not_above.Goals as goal

pub returns : goal.returns
unfolding not_above_text
returns c = looser _ (omega arith) (and_then c.put_field-a.ensures c.put_field.ensures)
