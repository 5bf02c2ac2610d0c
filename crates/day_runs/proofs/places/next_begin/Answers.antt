use native.Mathlib.Omega.{arith}
use mathlib.Core.Path.{sym, ◌∙◌}
use Rattle.day_runs.specs.Inner.{day_at}
use Rattle.day_runs.proofs.Slots.{runs_skip}
use Rattle.day_runs.proofs.places.next_begin.Goals as goal

pub loop-at-preserved : goal.loop-at-preserved
loop-at-preserved c =
    let a = c.args in
    let l = c.loop-at in
    λ m sum.
    l.invariant m sum ∙ runs_skip (day_at m a.b.now a.deep.now a.reserves.now a.series.now a.first) l.at (omega arith) sum
    (sym (c.begins_at.ensures m) ∙ c.if-begins_at.false)
