use mathlib.Core.Path.{◌∙◌, sym}
use Prim.Native.Nat.{◌≤◌}
use native.Mathlib.Omega.{arith}
use borrow.Author.Tests.{leb-true, leb-false}
use lib.ListN.{length}
use Rattle.form.specs.Form.{filled_with, most_with}
use Rattle.render.proofs.Placed.{no_room, rendered}
use Rattle.form.proofs.say_with.Goals as goal

pub fill_with-requires : goal.fill_with-requires
fill_with-requires c =
    let a = c.args in
    let room : most_with a.form.now (length a.one.now) (length a.other.now) ≤ length a.out.now = leb-true _ _ (sym c.has_room.ensures ∙ c.if-has_room.true) in
    omega (arith, room)

pub returns-then-has_room-clause-renders : goal.returns-then-has_room-clause-renders
returns-then-has_room-clause-renders c =
    let a = c.args in
    let room : most_with a.form.now (length a.one.now) (length a.other.now) ≤ length a.out.now = leb-true _ _ (sym c.has_room.ensures ∙ c.if-has_room.true) in
    (rendered _ room c.fill_with.ensures).0

pub returns-then-has_room-clause-prefix_len : goal.returns-then-has_room-clause-prefix_len
returns-then-has_room-clause-prefix_len c =
    let a = c.args in
    let room : most_with a.form.now (length a.one.now) (length a.other.now) ≤ length a.out.now = leb-true _ _ (sym c.has_room.ensures ∙ c.if-has_room.true) in
    (rendered _ room c.fill_with.ensures).1

pub returns-clause-renders : goal.returns-clause-renders
returns-clause-renders c = (no_room _ _ c.args.out.now (leb-false _ _ (sym c.has_room.ensures ∙ c.if-has_room.false))).0

pub returns-clause-prefix_len : goal.returns-clause-prefix_len
returns-clause-prefix_len c =
    let a = c.args in
    (no_room _ (filled_with a.form.now a.one.now a.other.now a.values.now) a.out.now (leb-false _ _ (sym c.has_room.ensures ∙ c.if-has_room.false))).1
