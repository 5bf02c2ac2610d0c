use mathlib.Core.Path.{ap}
use mathlib.Core.Bool.{Bool, not, ◌&&◌}
use lib.Dec.{eqb}
use Rattle.month.specs.Settling.{is_unlisted}
use Rattle.month.proofs.listed.is_unlisted.Goals as goal

pub returns : goal.returns
unfolding is_unlisted
returns c = ap (λ (t : Bool). not (eqb c.args.c.state 2) && not t) c.is_listed.ensures
