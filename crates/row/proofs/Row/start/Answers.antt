use Rattle.row.proofs.Rows.{start_fresh}
use Rattle.row.proofs.Row.start.Goals as goal

pub returns : goal.returns
returns c = start_fresh _
