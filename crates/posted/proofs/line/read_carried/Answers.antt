use Rattle.posted.proofs.Lines.{carried_reads}
use Rattle.posted.proofs.line.read_carried.Goals as goal

pub returns : goal.returns
returns c = carried_reads _ _ _ _ _ _ _ c.read_field-energy.ensures c.read_field-weight.ensures c.read_signed_field-share.ensures
