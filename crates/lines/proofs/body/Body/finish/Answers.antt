use mathlib.Core.Path.{sym, ◌∙◌}
use Rattle.lines.proofs.Sheets.{end_open, end_shut}
use Rattle.lines.proofs.body.Body.finish.Goals as goal

pub returns-then-is_begun : goal.returns-then-is_begun
returns-then-is_begun c =
    let begun = sym c.is_begun.ensures ∙ c.if-is_begun.true in
    let s = c.args.self in
    c.answer.ensures ∙ end_open s c.with-closed.result begun c.with-closed.ensures

pub returns : goal.returns
returns c =
    let shut = sym c.is_begun.ensures ∙ c.if-is_begun.false in
    let s = c.args.self in
    c.answer-2.ensures ∙ end_shut s shut
