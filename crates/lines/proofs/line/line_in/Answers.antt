use mathlib.Core.Path.{sym, ◌∙◌}
use Rattle.lines.proofs.Lines.{line_whole, line_none}
use Rattle.lines.proofs.line.line_in.Goals as goal

pub returns-then-is_whole : goal.returns-then-is_whole
returns-then-is_whole c =
    let row = c.args.row in
    let whole = sym c.is_whole.ensures ∙ c.if-is_whole.true in
    c.typed.ensures ∙ line_whole row c.first_five-ended.result c.hold.result whole c.first_five-ended.ensures c.hold.ensures

pub returns : goal.returns
returns c =
    c.blank_line.ensures ∙ line_none c.args.row (sym c.is_whole.ensures ∙ c.if-is_whole.false)
