use borrow.Author.Tests.{ne_eqb}
use native.Mathlib.Omega.{arith}
use mathlib.Core.Path.{◌≡◌}
use mathlib.Core.Bool.{true, false}
use Rattle.pay.specs.Event.{event_wh}
use Rattle.pay.specs.Inner.{most_wh}
use lib.IntN.{pos}
use lib.Signed.{lt_z}
use mir.Syntax.{w64}
use mir.ValLaws.{to_z_pos}
use Rattle.pay.proofs.Signed.{widened, event_most}
use Rattle.pay.proofs.event.event_wh.Goals as goal

pub returns-then-c-eq1 : goal.returns-then-c-eq1
unfolding event_wh
returns-then-c-eq1 c = (simp c.if-c-eq1.true, omega arith)

pub returns-then-moved-most : goal.returns-then-moved-most
unfolding event_wh
returns-then-moved-most c =
    let a = c.args in
    let z = widened a.a c.ranges.a.sfits in
    let p = to_z_pos w64 a.b (omega arith) in
    let t : lt_z a.a (pos a.b) ≡ true = simp (z, p) at c.if-moved-most.true in
    let e : a.a ≡ event_wh a.a a.b a.c = simp (ne_eqb _ _ c.if-c-eq1.false, t) in
    simp z (e, rw (← e) at (event_most a.a a.b a.c most_wh (omega arith)))

pub returns-else-moved-most : goal.returns-else-moved-most
unfolding event_wh
returns-else-moved-most c =
    let a = c.args in
    let z = widened a.a c.ranges.a.sfits in
    let p = to_z_pos w64 a.b (omega arith) in
    let t : lt_z a.a (pos a.b) ≡ false = simp (z, p) at c.if-moved-most.false in
    let e : pos a.b ≡ event_wh a.a a.b a.c = simp (ne_eqb _ _ c.if-c-eq1.false, t) in
    simp p (e, rw (← e) at (event_most a.a a.b a.c most_wh (omega arith)))
