use mathlib.Core.Path.{sym, ◌∙◌}
use Rattle.book.specs.Book.{record_at}
use Rattle.score.proofs.Energy.{own_refusal}
use Rattle.score.proofs.refusal.refusal_at.Goals as goal

pub returns : goal.returns
returns c =
    let a = c.args in
    let e = c.requires.x_value in
    c.number_of.ensures
    ∙ sym (own_refusal a.month a.member (record_at a.b.now) a.i (rw e at c.requires.x_value_2) _ _
    (rw e at c.open_to-fit.ensures) (rw e at c.clash_before-clash.ensures))
