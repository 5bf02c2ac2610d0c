use Rattle.std.proofs.Common.{arith}
use Rattle.render.proofs.Placed.{and_then, looser}
use Rattle.faults.specs.Words.{limits_text}
use Rattle.faults.proofs.words.put_limits.Goals as goal

pub returns : goal.returns
unfolding limits_text
returns c = looser _ (omega arith) (and_then c.put_field-a.ensures c.put_field.ensures)
