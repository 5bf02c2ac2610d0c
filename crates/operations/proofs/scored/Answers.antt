use Rattle.score.proofs.Exact.{outcome_exact}
use Rattle.operations.proofs.scored.Goals as goal

pub returns : goal.returns
returns c = (outcome_exact _ _ _ _).0 c.score.ensures
