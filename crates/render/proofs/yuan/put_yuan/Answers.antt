use Rattle.render.specs.Yuan.{yuan}
use Rattle.render.proofs.Placed.{and_then}
use Rattle.render.proofs.yuan.put_yuan.Goals as goal

pub returns : goal.returns
unfolding yuan
returns c = and_then c.put_decimal-next.ensures c.put_two.ensures
