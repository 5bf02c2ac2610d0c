use Rattle.intake.specs.Intake.{statements_from, area_from, intake_of}
use Rattle.intake.proofs.Intake.start.Goals as goal

pub returns : goal.returns
unfolding intake_of statements_from area_from
returns c = λ i. record { year = c.start-year.ensures i; area = 0 }
