use Rattle.std.proofs.Common.{List, ◌++◌, drop, ap₂, ap, ◌∙◌}
use Rattle.ceiling.specs.declared.LimitedLine.{LimitedLine}
use Rattle.ceiling.specs.Inner.{beside_ceiled, lend_limited}
use Rattle.ceiling.proofs.lent.lend_limited.Goals as goal

pub returns : goal.returns
unfolding lend_limited
returns c =
    c.beside.ensures ∙ ap₂ beside_ceiled c.share_limited-told.ensures.says (ap (λ (zs : List LimitedLine). zs ++ drop c.args.count c.args.lines) c.share_limited-told.ensures.lines)
