use Rattle.intake.proofs.Texts.{read_few}
use Rattle.intake.proofs.Intake.reason.Goals as goal

pub reason_of-requires : goal.reason_of-requires
reason_of-requires c = read_few c.read_posted-p.ensures
