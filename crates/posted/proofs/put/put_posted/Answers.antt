use Rattle.posted.specs.Posted.{total_text, user_text}
use Rattle.render.proofs.Placed.{and_then}
use Rattle.posted.proofs.put.put_posted.Goals as goal

pub returns : goal.returns
unfolding total_text user_text
returns c = and_then (and_then (and_then c.put_head-a.ensures c.put_rows-b.ensures) c.put_sum-c.ensures) c.put_sum.ensures
