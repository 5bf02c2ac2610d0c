use Rattle.grid.proofs.Numbers.{number_yes, number_no}
use Rattle.grid.proofs.alone.number.Goals as goal

pub returns-then-run-text : goal.returns-then-run-text
returns-then-run-text c =
    number_yes c.args.text.now c.run_from-run.result
    c.run_from-run.ensures c.hold.result c.if-run-text.true c.hold.ensures

pub returns : goal.returns
returns c = number_no c.args.text.now c.run_from-run.result c.run_from-run.ensures c.if-run-text.false
