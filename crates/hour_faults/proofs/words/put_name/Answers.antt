use Rattle.std.proofs.Common.{arith}
use Rattle.render.proofs.Placed.{looser, same_put}
use Rattle.hour_faults.proofs.Texts.{name_1, name_2, name_3, name_4, name_5, name_6, name_7}
use Rattle.hour_faults.proofs.words.put_name.Goals as goal

pub returns-then-column-eq1 : goal.returns-then-column-eq1
returns-then-column-eq1 c = same_put (name_1 c.args.column c.if-column-eq1.true) (looser _ (omega arith)
    c.put_word.ensures)

pub returns-then-column-eq2 : goal.returns-then-column-eq2
returns-then-column-eq2 c = same_put (name_2 c.args.column c.if-column-eq1.false
    c.if-column-eq2.true) (looser _ (omega arith) c.put_word-then-column-eq2.ensures)

pub returns-then-column-eq3 : goal.returns-then-column-eq3
returns-then-column-eq3 c = same_put (name_3 c.args.column
    c.if-column-eq1.false c.if-column-eq2.false
    c.if-column-eq3.true) (looser _ (omega arith) c.put_word-then-column-eq3.ensures)

pub returns-then-column-eq4 : goal.returns-then-column-eq4
returns-then-column-eq4 c = same_put (name_4 c.args.column
    c.if-column-eq1.false c.if-column-eq2.false
    c.if-column-eq3.false c.if-column-eq4.true) (looser _ (omega arith) c.put_word-then-column-eq4.ensures)

pub returns-then-column-eq5 : goal.returns-then-column-eq5
returns-then-column-eq5 c = same_put (name_5 c.args.column
    c.if-column-eq1.false c.if-column-eq2.false
    c.if-column-eq3.false c.if-column-eq4.false
    c.if-column-eq5.true) (looser _ (omega arith) c.put_word-then-column-eq5.ensures)

pub returns-then-column-eq6 : goal.returns-then-column-eq6
returns-then-column-eq6 c = same_put (name_6 c.args.column
    c.if-column-eq1.false c.if-column-eq2.false
    c.if-column-eq3.false c.if-column-eq4.false
    c.if-column-eq5.false c.if-column-eq6.true) (looser _ (omega arith) c.put_word-then-column-eq6.ensures)

pub returns : goal.returns
returns c = same_put (name_7 c.args.column
    c.if-column-eq1.false c.if-column-eq2.false
    c.if-column-eq3.false c.if-column-eq4.false
    c.if-column-eq5.false c.if-column-eq6.false) (looser _ (omega arith) c.put_word-2.ensures)
