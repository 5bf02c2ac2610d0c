use Rattle.std.proofs.Common.{arith}
use Rattle.render.proofs.Placed.{looser, same_put}
use Rattle.faults.proofs.Texts.{lines_1, lines_other}
use Rattle.faults.proofs.words.put_lines.Goals as goal

pub returns-then-n-eq1 : goal.returns-then-n-eq1
returns-then-n-eq1 c = same_put (lines_1 _ c.if-n-eq1.true) (looser _ (omega arith) c.put_word.ensures)

pub returns : goal.returns
returns c = same_put (lines_other _ c.if-n-eq1.false) (looser _ (omega arith) c.put_word-2.ensures)
