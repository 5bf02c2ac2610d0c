use mathlib.Core.Path.{sym, subst}
use native.Mathlib.Omega.{arith}
use Rattle.grid.specs.declared.Grid.{Grid}
use Rattle.grid.specs.Meaning.{Follows}
use Rattle.grid.proofs.Steps.{by_mark_last, by_mark_more}
use Rattle.grid.proofs.Grid.marked.Goals as goal

pub returns-then-stage-ge2 : goal.returns-then-stage-ge2
returns-then-stage-ge2 c = λ ended. subst (λ (r : Grid). Follows c.args.self ended c.args.b r ended) (sym c.first.ensures)
    (by_mark_last c.args.self c.args.b c.requires.shut_value c.requires.b_value (omega arith) ended)

pub returns : goal.returns
returns c = λ ended. subst (λ (r : Grid). Follows c.args.self ended c.args.b r ended) (sym c.spoilt.ensures)
    (by_mark_more c.args.self c.args.b c.requires.shut_value c.requires.b_value (omega arith) ended)
