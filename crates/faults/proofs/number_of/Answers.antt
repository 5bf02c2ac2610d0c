use Rattle.faults.proofs.Judging.{number_yes, number_no}
use Rattle.faults.proofs.number_of.Goals as goal

pub returns-then-n : goal.returns-then-n
returns-then-n c = λ row e. number_yes c.args.n row e c.if-n.true

pub returns : goal.returns
returns c = λ row e. number_no c.args.n row e c.if-n.false
