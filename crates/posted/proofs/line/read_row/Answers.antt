use Rattle.render.proofs.Printed.{front_put}
use Rattle.posted.proofs.Lines.{row_taken, no_row_taken}
use borrow.Author.Rules.{rules}
use Rattle.posted.proofs.line.read_row.Goals as goal

pub returns-in_err-rest : goal.returns-in_err-rest
returns-in_err-rest c =
    rw c.from_residual.ensures (no_row_taken _ _ c.read_numbers-row.result c.read_numbers-row.ensures (front_put (search rules) c.put_row-k.ensures) c.in_err-rest.ensures)

pub returns : goal.returns
returns c = row_taken _ _ c.read_numbers-row.result _ c.read_numbers-row.ensures (front_put (search rules) c.put_row-k.ensures) c.in_ok-rest.ensures
