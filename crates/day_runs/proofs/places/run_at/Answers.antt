use mathlib.Core.Path.{sym, ◌∙◌}
use Rattle.day_runs.specs.Inner.{day_at}
use Rattle.day_runs.proofs.Slots.{deep_run, reserve_run}
use Rattle.day_runs.proofs.places.run_at.Goals as goal

pub returns-then-place-eq0 : goal.returns-then-place-eq0
returns-then-place-eq0 c =
    let a = c.args in
    let e = c.service_run.ensures in
    (e.run ∙ sym (deep_run (day_at a.member a.b.now a.deep.now a.reserves.now a.series.now a.first) a.place a.before.0 c.if-place-eq0.true), e.most)

pub returns : goal.returns
returns c =
    let a = c.args in
    let e = c.service_run-2.ensures in
    (e.run ∙ sym (reserve_run (day_at a.member a.b.now a.deep.now a.reserves.now a.series.now a.first) a.place a.before.0 c.if-place-eq0.false), e.most)
