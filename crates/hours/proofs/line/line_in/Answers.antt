use Rattle.std.proofs.Common.{◌≡◌, length, ◌∙◌, rules}
use Rattle.hours.proofs.Typing.{line_whole, line_none}
use Rattle.hours.proofs.line.line_in.Goals as goal

pub returns-then-grid-eq-LAST : goal.returns-then-grid-eq-LAST
returns-then-grid-eq-LAST c = let a = c.args in
    let long : length a.ended ≡ 8 = search rules in
    c.typed.ensures ∙ line_whole a.grid a.ended long c.told.result c.if-grid-eq-LAST.true c.told.ensures

pub returns : goal.returns
returns c = let a = c.args in
    let long : length a.ended ≡ 8 = search rules in
    c.blank_hour_line.ensures ∙ line_none a.grid a.ended long c.if-grid-eq-LAST.false
