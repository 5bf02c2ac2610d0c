use Rattle.posted.proofs.Lines.{earned_reads}
use Rattle.posted.proofs.line.read_earned.Goals as goal

pub returns : goal.returns
returns c =
    earned_reads _ _ _ _ _ _ _ _ _ _ _ c.read_field-number.ensures c.read_field-hours.ensures c.read_field-grains.ensures
    c.read_field-compensation.ensures c.read_field-assessment.ensures
