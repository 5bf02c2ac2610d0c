use Rattle.render.specs.Yuan.{points}
use Rattle.render.proofs.Placed.{and_then}
use Rattle.render.proofs.yuan.put_points.Goals as goal

pub returns : goal.returns
unfolding points
returns c = and_then c.put_decimal-next.ensures c.put_five.ensures
