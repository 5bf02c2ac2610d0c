use Rattle.posted.proofs.Signing.{signed_reads}
use Rattle.posted.proofs.taken.read_signed_field.Goals as goal

pub returns : goal.returns
returns c = signed_reads _ _ _ _ _ c.behind.ensures c.read_signed.ensures
