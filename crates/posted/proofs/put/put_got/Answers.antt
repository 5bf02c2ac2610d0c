use Rattle.posted.specs.Posted.{got_text}
use Rattle.render.proofs.Placed.{and_then}
use Rattle.posted.proofs.put.put_got.Goals as goal

pub returns : goal.returns
unfolding got_text
returns c =
    let p = c.put_field-a.ensures in
    let q = c.put_field-b.ensures in
    let r = c.put_money-c.ensures in
    and_then (and_then (and_then p q) r) c.put_word.ensures
