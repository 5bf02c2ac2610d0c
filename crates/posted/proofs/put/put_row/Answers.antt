use Rattle.posted.specs.Posted.{row_text}
use Rattle.render.proofs.Placed.{and_then}
use Rattle.posted.proofs.put.put_row.Goals as goal

pub returns : goal.returns
unfolding row_text
returns c =
    and_then (and_then c.put_earned-a.ensures
    c.put_carried-b.ensures) c.put_got.ensures
