use mathlib.Core.Path.{refl}
use native.Mathlib.Omega.{arith}
use Rattle.form.proofs.Filling.{walk_sign}
use Rattle.form.proofs.walk.put_sign.Goals as goal

pub returns-clause-walks : goal.returns-clause-walks
returns-clause-walks c =
    let a = c.args in
    let t = c.taken_by_sign in
    walk_sign a.one.now a.other.now a.form.now a.values.now a.out.now a.far _ _ _ (omega arith) refl c.if-c-eq37.false
    (λ o. c.requires.stops.sign (omega arith)) t.ensures.value t.ensures.upper_bound
    (rw c.value_at-v.ensures at c.next_on.ensures) c.requires.taken_le_read
