use Rattle.std.proofs.Common.{arith}
use Rattle.render.proofs.Placed.{and_then, looser, same_put}
use Rattle.faults.proofs.Texts.{cells_1, cells_8, cells_other}
use Rattle.faults.proofs.words.put_cells.Goals as goal

pub returns-then-n-eq1 : goal.returns-then-n-eq1
returns-then-n-eq1 c = same_put (cells_1 c.args.n c.if-n-eq1.true)
    (looser _ (omega arith) (and_then c.put_decimal-a.ensures c.put_word.ensures))

pub returns-then-n-eq-MOST_COLUMNS : goal.returns-then-n-eq-MOST_COLUMNS
returns-then-n-eq-MOST_COLUMNS c = same_put (cells_8 c.args.n
    c.if-n-eq1.false c.if-n-eq-MOST_COLUMNS.true) (looser _ (omega arith) (and_then
    c.put_decimal-a.ensures c.put_word-then-n-eq-MOST_COLUMNS.ensures))

pub returns : goal.returns
returns c = same_put (cells_other c.args.n
    c.if-n-eq1.false c.if-n-eq-MOST_COLUMNS.false) (looser _ (omega arith) (and_then
    c.put_decimal-a.ensures c.put_word-2.ensures))
