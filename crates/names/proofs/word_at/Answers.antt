use mathlib.Core.Path.{refl}
use Rattle.names.proofs.Words.{word_there}
use Rattle.names.proofs.word_at.Goals as goal

pub returns : goal.returns
returns c = let a = c.args in word_there a.words.now a.n _ _ _ c.skipped-at.ensures.words_value refl c.before-2.ensures
