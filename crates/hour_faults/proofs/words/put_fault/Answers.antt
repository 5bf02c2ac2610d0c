use Rattle.std.proofs.Common.{arith}
use Rattle.render.proofs.Placed.{and_then, looser}
use Rattle.hour_faults.specs.Words.{hour_fault_text}
use Rattle.hour_faults.proofs.words.put_fault.Goals as goal

pub returns : goal.returns
unfolding hour_fault_text
returns c = looser _ (omega arith) (and_then (and_then (and_then
    c.put_word-a.ensures
    c.put_line-b.ensures)
    c.put_wrong-c.ensures) c.put_word.ensures)
