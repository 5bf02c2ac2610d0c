use Rattle.std.proofs.Common.{sym, ap, arith}
use Rattle.render.proofs.Placed.{and_then, looser, same_put}
use Rattle.faults.specs.Words.{column_text}
use Rattle.faults.specs.declared.Table.{Table}
use Rattle.faults.proofs.words.put_column.Goals as goal

pub returns-in-Register : goal.returns-in-Register
unfolding column_text
returns-in-Register c = same_put (ap (λ (t : Table). column_text t
    c.args.column) (sym
    c.in-Register.is)) (and_then (and_then
    c.put_field-a.ensures c.put_word-b.ensures)
    c.put_name.ensures)

pub returns-in-Series : goal.returns-in-Series
unfolding column_text
returns-in-Series c = same_put (ap (λ (t : Table). column_text t c.args.column) (sym
    c.in-Series.is)) (looser _ (omega arith) c.put_word.ensures)
