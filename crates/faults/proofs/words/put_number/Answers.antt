use Rattle.std.proofs.Common.{arith}
use Rattle.render.proofs.Placed.{looser, same_put}
use Rattle.faults.proofs.Texts.{number_shown, number_held}
use Rattle.faults.proofs.words.put_number.Goals as goal

pub returns-then-n-lt-CEILING : goal.returns-then-n-lt-CEILING
returns-then-n-lt-CEILING c = same_put (number_shown c.args.n c.if-n-lt-CEILING.true)
    c.put_field.ensures

pub returns : goal.returns
returns c = same_put (number_held c.args.n c.if-n-lt-CEILING.false) (looser _ (omega arith)
    c.put_word.ensures)
