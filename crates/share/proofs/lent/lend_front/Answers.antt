use Rattle.std.proofs.Common.{List, ◌++◌, drop, ap₂, ap, ◌∙◌}
use Rattle.share.specs.declared.Line.{Line}
use Rattle.share.specs.Inner.{beside, lend_front}
use Rattle.share.proofs.lent.lend_front.Goals as goal

pub returns : goal.returns
unfolding lend_front
returns c =
    c.beside.ensures ∙ ap₂ beside c.share_lines-told.ensures.says (ap (λ (zs : List Line). zs ++ drop c.args.count c.args.lines) c.share_lines-told.ensures.lines)
