use Rattle.intake.specs.Limits.{statement_is_within}
use Rattle.intake.proofs.limits.statement_is_within.Goals as goal

pub returns : goal.returns
unfolding statement_is_within
returns c = rw c.line_beyond.ensures
