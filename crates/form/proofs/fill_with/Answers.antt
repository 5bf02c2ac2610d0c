use native.Mathlib.Omega.{arith}
use Rattle.form.proofs.Filling.{walk_end}
use Rattle.form.proofs.fill_with.Goals as goal

pub returns : goal.returns
returns c =
    let a = c.args in
    walk_end a.one.now a.other.now a.form.now a.values.now a.at (omega arith) c.loop-far.invariant.1
