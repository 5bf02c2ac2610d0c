use Rattle.std.proofs.Common.{arith}
use Rattle.render.proofs.Placed.{and_then, looser}
use Rattle.hour_faults.specs.Words.{cell_text}
use Rattle.hour_faults.proofs.words.put_cell.Goals as goal

pub returns : goal.returns
unfolding cell_text
returns c = looser _ (omega arith) (and_then c.put_column-a.ensures c.put_number.ensures)
