use Rattle.render.proofs.Printed.{front_put}
use Rattle.posted.proofs.Lines.{sum_reads, sum_taken, no_sum_taken}
use borrow.Author.Rules.{rules}
use Rattle.posted.proofs.line.read_sum.Goals as goal

pub returns-in_err-rest : goal.returns-in_err-rest
returns-in_err-rest c =
    rw c.from_residual.ensures
    (no_sum_taken _ _ _ _ (sum_reads _ _ _ _ c.read_signed_field-fen.ensures) (front_put (search rules) c.put_sum-k.ensures) c.in_err-rest.ensures)

pub returns : goal.returns
returns c =
    sum_taken _ _ _ _ (sum_reads _ _ _ _ c.read_signed_field-fen.ensures) (front_put (search rules) c.put_sum-k.ensures) _ (search rules) c.in_ok-rest.ensures
