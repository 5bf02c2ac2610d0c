use mir.Syntax.{w64}
use mir.Val.{SFits}
use Rattle.report.proofs.Signs.{owed_below, owed_above}
use borrow.Author.Rules.{rules}
use Rattle.report.proofs.totals.owed_of.Goals as goal

pub returns-then-n-lt0 : goal.returns-then-n-lt0
returns-then-n-lt0 c =
    let fits : SFits w64 c.args.n =
    search rules in
    owed_below c.args.n fits c.unsigned_abs.result c.unsigned_abs.ensures.value c.if-n-lt0.true

pub returns-else-n-lt0 : goal.returns-else-n-lt0
returns-else-n-lt0 c =
    let fits : SFits w64 c.args.n =
    search rules in
    owed_above c.args.n fits c.if-n-lt0.false
