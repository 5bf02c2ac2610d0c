use Rattle.call.specs.Layout.{call_at}
use Rattle.call.proofs.layout.revision_at.Goals as goal

pub returns : goal.returns
unfolding call_at
returns c = c.u32_at.ensures
