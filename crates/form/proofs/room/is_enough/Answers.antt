use mathlib.Core.Path.{sym}
use native.Mathlib.Omega.{arith}
use borrow.Author.Tests.{le-leb, lt-leb}
use Rattle.form.proofs.Filling.{room_is, room_none}
use Rattle.form.proofs.room.is_enough.Goals as goal

pub returns-then-left-most : goal.returns-then-left-most
returns-then-left-most c =
    let a = c.args in
    let l = c.loop-c in
    sym (lt-leb _ a.room (omega (arith, l.invariant.1, c.if-left-most.true, c.most_byte-most.ensures, room_is a.a a.b a.form.now l.marked l.c-index (omega arith))))

pub loop-c-preserved : goal.loop-c-preserved
loop-c-preserved c =
    let a = c.args in
    let l = c.loop-c in
    let e = room_is a.a a.b a.form.now l.marked l.c-index (omega arith) in
    (omega arith, rw c.next_marked-marked.ensures (omega (arith, l.invariant.1, c.if-left-most.false, c.most_byte-most.ensures)))

pub returns : goal.returns
returns c =
    let a = c.args in
    let l = c.loop-c in
    sym (le-leb _ a.room (omega (arith, l.invariant.1, room_none a.a a.b a.form.now l.marked l.c-index (omega arith))))
