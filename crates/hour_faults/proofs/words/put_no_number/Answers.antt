use Rattle.std.proofs.Common.{arith}
use Rattle.render.proofs.Placed.{and_then, looser}
use Rattle.hour_faults.specs.Words.{no_number_text}
use Rattle.hour_faults.proofs.words.put_no_number.Goals as goal

pub returns : goal.returns
unfolding no_number_text
returns c = looser _ (omega arith) (and_then c.put_column-a.ensures c.put_word.ensures)
