use Rattle.std.proofs.Common.{arith}
use Rattle.render.proofs.Placed.{and_then, looser}
use Rattle.faults.specs.Words.{wanted_text}
use Rattle.faults.proofs.words.put_wanted.Goals as goal

pub returns : goal.returns
unfolding wanted_text
returns c = looser _ (omega arith) (and_then (and_then c.put_whose-a.ensures
    c.put_has-b.ensures) c.put_word.ensures)
