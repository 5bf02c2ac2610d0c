use Rattle.std.proofs.Common.{arith}
use Rattle.render.proofs.Placed.{and_then, looser}
use Rattle.faults.specs.Words.{line_text}
use Rattle.faults.proofs.words.put_line.Goals as goal

pub returns : goal.returns
unfolding line_text
returns c = looser _ (omega arith) (and_then c.put_field-a.ensures c.put_word.ensures)
