use Rattle.intake.specs.Intake.{is_taken}
use Rattle.intake.proofs.is_taken.Goals as goal

pub returns : goal.returns
unfolding is_taken
returns c = rw c.statement_is_within.ensures
