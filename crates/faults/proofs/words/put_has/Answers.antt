use Rattle.render.proofs.Placed.{and_then}
use Rattle.faults.specs.Words.{has_text}
use Rattle.faults.proofs.words.put_has.Goals as goal

pub returns : goal.returns
unfolding has_text
returns c = and_then c.put_word-a.ensures c.put_grouped.ensures
