use Rattle.units.proofs.Laws.{split_fen}
use Rattle.units.proofs.Grains.to_fen.Goals as goal

pub returns : goal.returns
returns c = split_fen _
