use Rattle.render.proofs.Placed.{and_then, same_put}
use Rattle.text.specs.Reading.{LineFits}
use Rattle.text.proofs.Statements.{line_said}
use borrow.Author.Rules.{rules}
use Rattle.text.proofs.sharing.put_line.Goals as goal

pub returns : goal.returns
returns c =
    let fits : LineFits c.args.l = search rules in
    let p = c.put_decimal-a.ensures in
    let q = c.put_money-b.ensures in
    let r = c.put_money-c.ensures in
    same_put (line_said c.args.l fits) (and_then (and_then (and_then p q) r) c.put_word.ensures)
