use Rattle.posted.specs.Posted.{head_text}
use Rattle.render.proofs.Placed.{and_then}
use Rattle.posted.proofs.put.put_head.Goals as goal

pub returns : goal.returns
unfolding head_text
returns c =
    and_then (and_then (and_then c.put_date-a.ensures c.put_field-b.ensures) c.put_field-c.ensures) c.put_word.ensures
