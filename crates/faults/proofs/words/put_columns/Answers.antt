use Rattle.std.proofs.Common.{arith}
use Rattle.render.proofs.Placed.{and_then, looser}
use Rattle.faults.specs.Words.{columns_text}
use Rattle.faults.proofs.words.put_columns.Goals as goal

pub returns : goal.returns
unfolding columns_text
returns c = looser _ (omega arith) (and_then (and_then c.put_cells-a.ensures
    c.put_field-b.ensures) c.put_parted.ensures)
