use Rattle.render.proofs.Printed.{front_put}
use Rattle.posted.proofs.Lines.{head_taken, no_head_taken}
use borrow.Author.Rules.{rules}
use Rattle.posted.proofs.line.read_head.Goals as goal

pub returns-in_err-rest : goal.returns-in_err-rest
returns-in_err-rest c =
    rw c.from_residual.ensures (no_head_taken _ _ c.read_heads-h.result c.read_heads-h.ensures (front_put (search rules) c.put_head-k.ensures) c.in_err-rest.ensures)

pub returns : goal.returns
returns c = head_taken _ _ c.read_heads-h.result _ c.read_heads-h.ensures (front_put (search rules) c.put_head-k.ensures) c.in_ok-rest.ensures
