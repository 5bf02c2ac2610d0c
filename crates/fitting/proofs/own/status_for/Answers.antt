use mathlib.Core.Path.{sym, ◌∙◌}
use Rattle.fitting.proofs.Cases.{status_0, status_1, status_2, status_none}
use Rattle.fitting.proofs.own.status_for.Goals as goal

pub returns-then-weight-weight_by : goal.returns-then-weight-weight_by
returns-then-weight-weight_by c =
    let a = c.args in
    status_0 a.negative a.energy.0 a.weight (c.if-weight-weight_by.true ∙ c.weight_by.ensures)

pub returns-then-weight-weight_by-2 : goal.returns-then-weight-weight_by-2
returns-then-weight-weight_by-2 c =
    let a = c.args in
    status_1 a.negative a.energy.0 a.weight (λ e. c.if-weight-weight_by.false (e ∙ sym c.weight_by.ensures)) (c.if-weight-weight_by-2.true ∙ c.weight_by-2.ensures)

pub returns-then-weight-weight_by-3 : goal.returns-then-weight-weight_by-3
returns-then-weight-weight_by-3 c =
    let a = c.args in
    status_2 a.negative a.energy.0 a.weight (λ e. c.if-weight-weight_by.false (e ∙ sym c.weight_by.ensures))
    (λ e. c.if-weight-weight_by-2.false (e ∙ sym c.weight_by-2.ensures)) (c.if-weight-weight_by-3.true ∙ c.weight_by-3.ensures)

pub returns-else-weight-weight_by-3 : goal.returns-else-weight-weight_by-3
returns-else-weight-weight_by-3 c =
    let a = c.args in
    status_none a.negative a.energy.0 a.weight (λ e. c.if-weight-weight_by.false (e ∙ sym c.weight_by.ensures))
    (λ e. c.if-weight-weight_by-2.false (e ∙ sym c.weight_by-2.ensures)) (λ e. c.if-weight-weight_by-3.false (e ∙ sym c.weight_by-3.ensures))
