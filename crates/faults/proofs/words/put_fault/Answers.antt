use Rattle.std.proofs.Common.{arith}
use Rattle.render.proofs.Placed.{and_then, looser}
use Rattle.faults.specs.Words.{fault_text}
use Rattle.faults.proofs.words.put_fault.Goals as goal

pub returns : goal.returns
unfolding fault_text
returns c = looser _ (omega arith) (and_then (and_then (and_then
    c.put_word-a.ensures
    c.put_line-b.ensures)
    c.put_wrong-c.ensures) c.put_word.ensures)
