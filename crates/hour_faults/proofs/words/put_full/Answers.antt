use Rattle.std.proofs.Common.{arith}
use Rattle.render.proofs.Placed.{and_then, looser}
use Rattle.hour_faults.specs.Words.{full_text}
use Rattle.hour_faults.proofs.words.put_full.Goals as goal

pub returns : goal.returns
unfolding full_text
returns c = looser _ (omega arith) (and_then c.put_field-a.ensures c.put_word.ensures)
