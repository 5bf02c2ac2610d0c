use Rattle.grid.proofs.Rows.{nexts}
use Rattle.grid.proofs.Grid.next.Goals as goal

pub returns : goal.returns
returns c = nexts c.args.self
