use mathlib.Core.Path.{sym, ◌∙◌}
use native.Mathlib.Omega.{arith}
use Rattle.lines.proofs.Parts.{part_whole, part_none}
use Rattle.lines.proofs.part.part_in.Goals as goal

pub returns-then-not-is_whole : goal.returns-then-not-is_whole
returns-then-not-is_whole c =
    let none = part_none c.args.row (sym c.is_whole.ensures ∙ c.if-not-is_whole.true) in
    omega (arith, none)

pub returns-then-row : goal.returns-then-row
returns-then-row c =
    let is = part_whole c.args.row (sym c.is_whole.ensures ∙ c.if-not-is_whole.false) in
    omega (arith, is, c.if-row.true)

pub returns : goal.returns
returns c =
    let is = part_whole c.args.row (sym c.is_whole.ensures ∙ c.if-not-is_whole.false) in
    omega (arith, is, c.if-row.false)
