use Rattle.render.proofs.Placed.{and_then}
use Rattle.posted.proofs.put.put_date.Goals as goal

pub returns : goal.returns
returns c =
    and_then (and_then c.put_field-a.ensures
    c.put_field-b.ensures) c.put_field.ensures
