use Rattle.posted.proofs.Taking.{field_reads}
use Rattle.posted.proofs.taken.read_field.Goals as goal

pub returns : goal.returns
returns c = field_reads _ _ _ _ _ c.behind.ensures c.read_number.ensures
