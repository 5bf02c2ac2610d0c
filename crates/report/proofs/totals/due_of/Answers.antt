use mir.Syntax.{w64}
use mir.Val.{SFits}
use Rattle.report.proofs.Signs.{due_below, due_above}
use borrow.Author.Rules.{rules}
use Rattle.report.proofs.totals.due_of.Goals as goal

pub returns-then-n-lt0 : goal.returns-then-n-lt0
returns-then-n-lt0 c =
    let fits : SFits w64 c.args.n =
    search rules in
    due_below c.args.n fits c.if-n-lt0.true

pub returns-else-n-lt0 : goal.returns-else-n-lt0
returns-else-n-lt0 c =
    let fits : SFits w64 c.args.n =
    search rules in
    due_above c.args.n fits c.unsigned_abs.result c.unsigned_abs.ensures.value c.if-n-lt0.false
