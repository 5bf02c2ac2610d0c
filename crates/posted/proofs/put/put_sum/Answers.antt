use Rattle.render.proofs.Placed.{and_then}
use Rattle.posted.proofs.put.put_sum.Goals as goal

pub returns : goal.returns
returns c = and_then c.put_money-next.ensures c.put_word.ensures
