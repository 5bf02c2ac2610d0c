use Rattle.posted.specs.Posted.{earned_text}
use Rattle.render.proofs.Placed.{and_then}
use Rattle.posted.proofs.put.put_earned.Goals as goal

pub returns : goal.returns
unfolding earned_text
returns c =
    let p = c.put_who-a.ensures in
    let q = c.put_field-b.ensures in
    let r = c.put_field-c.ensures in
    and_then (and_then (and_then p q) r) c.put_field.ensures
