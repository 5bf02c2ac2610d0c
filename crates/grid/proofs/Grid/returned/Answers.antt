use Rattle.grid.proofs.Steps.{by_return_byte}
use Rattle.grid.proofs.Grid.returned.Goals as goal

pub returns : goal.returns
returns c = λ ended. by_return_byte c.args.self ended c.requires
