use Rattle.faults.specs.Words.{thousand_text}
use Rattle.faults.proofs.words.put_thousand.Goals as goal

pub returns : goal.returns
unfolding thousand_text
returns c = c.put_word.ensures
