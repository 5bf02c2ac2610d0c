use Rattle.render.proofs.Placed.{and_then}
use Rattle.posted.proofs.put.put_who.Goals as goal

pub returns : goal.returns
returns c = and_then c.put_field-a.ensures c.put_field.ensures
