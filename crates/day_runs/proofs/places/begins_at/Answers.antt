use mathlib.Core.Path.{sym, ◌∙◌}
use Rattle.day_runs.specs.Inner.{day_at}
use Rattle.day_runs.proofs.Slots.{deep_begins, reserve_begins}
use Rattle.day_runs.proofs.places.begins_at.Goals as goal

pub returns-then-place-eq0 : goal.returns-then-place-eq0
returns-then-place-eq0 c =
    let a = c.args in
    λ m. c.run_begins.ensures ∙ sym (deep_begins (day_at m a.b.now a.deep.now a.reserves.now a.series.now a.first) a.place c.if-place-eq0.true)

pub returns : goal.returns
returns c =
    let a = c.args in
    λ m. c.run_begins-2.ensures ∙ sym (reserve_begins (day_at m a.b.now a.deep.now a.reserves.now a.series.now a.first) a.place c.if-place-eq0.false)
