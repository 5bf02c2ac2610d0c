use Rattle.std.proofs.Common.{◌≡◌, length, ◌∙◌, rules}
use Rattle.hours.proofs.Typing.{seven_fits, seven_not}
use Rattle.hours.proofs.line.typed.Goals as goal

pub returns-then-h-s : goal.returns-then-h-s
returns-then-h-s c =
    let a = c.args in
    let long : length a.ended ≡ 8 = search rules in
    seven_fits a.ended a.standard long c.if-h-s.true

pub returns : goal.returns
returns c =
    let a = c.args in
    let long : length a.ended ≡ 8 = search rules in
    c.blank_hour_line.ensures ∙ seven_not a.ended a.standard long c.if-h-s.false
