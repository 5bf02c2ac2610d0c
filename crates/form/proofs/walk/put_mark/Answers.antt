use mathlib.Core.Path.{refl}
use borrow.Author.Tests.{not-true, not-false}
use native.Mathlib.Omega.{arith}
use lib.ListN.{length}
use Rattle.form.proofs.Filling.{walk_mark, walk_mark_passed, walk_mark_end, mark_room}
use Rattle.form.proofs.walk.put_mark.Goals as goal

pub returns-then-k-form-clause-walks : goal.returns-then-k-form-clause-walks
returns-then-k-form-clause-walks c =
    let a = c.args in
    walk_mark_end a.one.now a.other.now a.form.now a.values.now a.out.now a.far c.if-k-form.true c.requires.read_value c.requires.taken_le_read

pub put_shown-at-requires : goal.put_shown-at-requires
put_shown-at-requires c =
    let a = c.args in
    omega (arith, c.requires.read_in_bounds_2, mark_room (length a.one.now) (length a.other.now) a.form.now a.far.read (omega arith) c.requires.read_value)

pub returns-clause-walks : goal.returns-clause-walks
returns-clause-walks c =
    let a = c.args in
    let t = c.taken_by_mark in
    walk_mark a.one.now a.other.now a.form.now a.values.now a.far _ _ _ (not-false _ c.if-not-far.false) (omega arith) c.requires.read_value refl t.ensures.value
    t.ensures.upper_bound c.requires.taken_le_read
    (rw c.value_at-v.ensures at c.put_shown-at.ensures)

pub returns-then-not-far-clause-walks : goal.returns-then-not-far-clause-walks
returns-then-not-far-clause-walks c =
    let a = c.args in
    let t = c.taken_by_mark in
    walk_mark_passed a.one.now a.other.now a.form.now a.values.now a.out.now a.far _ _ (not-true _ c.if-not-far.true) (omega arith) c.requires.read_value refl t.ensures.value t.ensures.upper_bound
    c.requires.taken_le_read
