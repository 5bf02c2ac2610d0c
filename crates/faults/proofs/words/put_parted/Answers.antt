use Rattle.std.proofs.Common.{arith}
use Rattle.render.proofs.Placed.{looser, same_put}
use Rattle.faults.proofs.Texts.{parted_more, parted_fewer}
use Rattle.faults.proofs.words.put_parted.Goals as goal

pub returns-then-wanted-n : goal.returns-then-wanted-n
returns-then-wanted-n c =
    let a = c.args in
    same_put (parted_more a.n a.wanted c.if-wanted-n.true) (looser _ (omega arith) c.put_word.ensures)

pub returns : goal.returns
returns c =
    let a = c.args in
    same_put (parted_fewer a.n a.wanted c.if-wanted-n.false) (looser _ (omega arith) c.put_word-2.ensures)
