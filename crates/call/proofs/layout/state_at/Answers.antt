use Rattle.call.specs.Layout.{call_at}
use Rattle.call.proofs.layout.state_at.Goals as goal

pub returns : goal.returns
unfolding call_at
returns c = c.u8_at.ensures
