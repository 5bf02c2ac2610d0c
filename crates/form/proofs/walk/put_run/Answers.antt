use borrow.Author.Tests.{not-true, not-false}
use native.Mathlib.Omega.{arith}
use Rattle.form.proofs.Filling.{walk_run, walk_past}
use Rattle.form.proofs.walk.put_run.Goals as goal

pub returns-then-not-far-clause-by_index : goal.returns-then-not-far-clause-by_index
returns-then-not-far-clause-by_index c one other vs =
    let a = c.args in
    walk_past one other a.form.now vs a.out.now a.far a.to (not-true _ c.if-not-far.true) c.requires.plain c.requires.taken_le_read

pub returns-clause-by_index : goal.returns-clause-by_index
returns-clause-by_index c one other vs =
    let a = c.args in
    walk_run one other a.form.now vs a.far a.to _ (not-false _ c.if-not-far.false) c.requires.plain c.requires.taken_le_read c.put_word-at.ensures
