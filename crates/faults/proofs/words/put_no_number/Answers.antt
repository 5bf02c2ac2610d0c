use Rattle.render.proofs.Placed.{and_then}
use Rattle.faults.specs.Words.{no_number_text}
use Rattle.faults.proofs.words.put_no_number.Goals as goal

pub returns : goal.returns
unfolding no_number_text
returns c = and_then c.put_column-a.ensures c.put_neither.ensures
