use Rattle.std.proofs.Common.{arith}
use Rattle.render.proofs.Placed.{and_then, looser, same_put}
use Rattle.faults.proofs.Texts.{neither_limit, neither_other}
use Rattle.faults.proofs.words.put_neither.Goals as goal

pub returns-then-column-eq-LIMIT_COLUMN : goal.returns-then-column-eq-LIMIT_COLUMN
returns-then-column-eq-LIMIT_COLUMN c =
    let a = c.args in
    let p = c.put_field-a.ensures in
    let q = c.put_field-b.ensures in
    let r = c.put_word.ensures in
    same_put (neither_limit a.column a.least a.most
    c.if-column-eq-LIMIT_COLUMN.true)
    (looser _ (omega arith) (and_then (and_then p q) r))

pub returns : goal.returns
returns c =
    let a = c.args in
    let p = c.put_field-c.ensures in
    let q = c.put_field.ensures in
    same_put (neither_other a.column a.least a.most c.if-column-eq-LIMIT_COLUMN.false) (looser _ (omega arith) (and_then p q))
