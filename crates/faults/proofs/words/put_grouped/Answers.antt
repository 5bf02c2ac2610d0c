use Rattle.std.proofs.Common.{arith}
use Rattle.render.proofs.Placed.{and_then, looser, same_put}
use Rattle.faults.proofs.Texts.{grouped_small, grouped_large}
use Rattle.faults.proofs.words.put_grouped.Goals as goal

pub returns-then-n-lt1000 : goal.returns-then-n-lt1000
returns-then-n-lt1000 c = same_put (grouped_small c.args.n c.if-n-lt1000.true) (looser _ (omega arith)
    c.put_decimal.ensures)

pub returns : goal.returns
returns c = same_put (grouped_large c.args.n
    c.if-n-lt1000.false) (looser _ (omega arith) (and_then
    c.put_decimal-a.ensures c.put_thousand.ensures))
