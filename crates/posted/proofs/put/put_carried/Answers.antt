use Rattle.posted.specs.Posted.{carried_text}
use Rattle.render.proofs.Placed.{and_then}
use Rattle.posted.proofs.put.put_carried.Goals as goal

pub returns : goal.returns
unfolding carried_text
returns c = and_then c.put_load-a.ensures c.put_money.ensures
