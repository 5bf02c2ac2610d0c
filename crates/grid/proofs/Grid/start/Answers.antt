use Rattle.grid.proofs.Rows.{starts}
use Rattle.grid.proofs.Grid.start.Goals as goal

pub returns : goal.returns
returns c = starts
