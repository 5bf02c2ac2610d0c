use Rattle.render.proofs.Placed.{and_then}
use Rattle.render.proofs.put_field.Goals as goal

pub returns : goal.returns
returns c = and_then c.put_word-next.ensures c.put_decimal.ensures
