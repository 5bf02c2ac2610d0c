use Rattle.std.proofs.Common.{arith}
use Rattle.render.proofs.Placed.{and_then, looser}
use Rattle.hour_faults.specs.Words.{fast_text}
use Rattle.hour_faults.proofs.words.put_fast.Goals as goal

pub returns : goal.returns
unfolding fast_text
returns c = looser _ (omega arith) (and_then c.put_cell-a.ensures c.put_field.ensures)
