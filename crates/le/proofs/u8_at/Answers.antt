use Rattle.le.proofs.Laws.{le_at_one}
use Rattle.le.proofs.u8_at.Goals as goal

pub returns : goal.returns
returns c = le_at_one _ _
