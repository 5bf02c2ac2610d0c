use Rattle.posted.proofs.Lines.{got_reads}
use Rattle.posted.proofs.line.read_got.Goals as goal

pub returns : goal.returns
returns c = got_reads _ _ _ _ _ _ _ c.read_field-uncollected.ensures c.read_field-given.ensures c.read_signed_field-amount.ensures
