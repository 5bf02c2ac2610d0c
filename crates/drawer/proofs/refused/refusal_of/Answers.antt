use mathlib.Core.Path.{sym, ◌∙◌}
use native.Mathlib.Omega.{arith}
use Rattle.book.specs.Book.{record_at}
use Rattle.score.specs.Scoring.{is_own_live}
use Rattle.score.proofs.Energy.{idle_refusal_lem}
use Rattle.drawer.proofs.refused.refusal_of.Goals as goal

pub refusal_at-requires : goal.refusal_at-requires
unfolding is_own_live
refusal_at-requires c =
    let p = c.requires in
    record { i_in_bounds = omega (arith, p.has_record); x_value = c.record_at-x.ensures; none_before = p.none_before; x_value_2 = c.if-x-member.true }

pub returns : goal.returns
unfolding is_own_live
returns c =
    let a = c.args in
    let e = c.record_at-x.ensures in
    c.idle_refusal.ensures
    ∙ rw e (sym (idle_refusal_lem a.month a.member (record_at a.b.now) a.i c.requires.i_bound (rw e at c.if-x-member.false)))
