use mathlib.Core.Path.{sym}
use native.Mathlib.Omega.{arith}
use borrow.Author.Tests.{le-leb}
use Rattle.form.proofs.Ample.{ample}
use Rattle.form.proofs.room.has_room.Goals as goal

pub returns-then-is_ample : goal.returns-then-is_ample
returns-then-is_ample c =
    let a = c.args in
    sym (le-leb _ a.room (omega (arith, c.is_ample.ensures c.if-is_ample.true, ample a.a a.b a.form.now)))
