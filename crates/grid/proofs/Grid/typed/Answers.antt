use mathlib.Core.Path.{sym, subst, ◌∙◌}
use Rattle.grid.specs.declared.Grid.{Grid}
use Rattle.grid.specs.Meaning.{Follows}
use Rattle.grid.proofs.Steps.{by_spoiling}
use Rattle.grid.proofs.Grid.typed.Goals as goal

pub returns : goal.returns
returns c = subst (λ (r : Grid). Follows c.args.self c.args.ended.now c.args.b r c.args.ended.now) (sym c.spoilt.ensures)
    (by_spoiling c.args.self c.args.ended.now c.requires.in_line c.args.b c.requires.b_value.0 c.requires.b_value.1
    (sym c.is_separator.ensures ∙ c.if-is_separator.false)
    c.if-b-eq-QUOTE.false c.if-b-eq-CARRIAGE_RETURN.false c.if-b-eq-DASH.false)
