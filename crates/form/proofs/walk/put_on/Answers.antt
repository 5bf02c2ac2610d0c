use native.Mathlib.Omega.{arith}
use Rattle.form.proofs.Filling.{walk_then, passed_room}
use Rattle.form.proofs.walk.put_on.Goals as goal

pub put_run-here-requires-clause-room : goal.put_run-here-requires-clause-room
put_run-here-requires-clause-room c =
    let a = c.args in
    omega (arith, c.requires.read_in_bounds_2, passed_room a.one.now a.other.now a.form.now _ c.run_end-to.ensures.plain)

pub put_sign-requires-clause-taken_le_read : goal.put_sign-requires-clause-taken_le_read
put_sign-requires-clause-taken_le_read c =
    let a = c.args in
    (c.put_run-here.ensures.by_index a.one.now a.other.now a.values.now).order

pub put_sign-requires-clause-read_in_bounds_2 : goal.put_sign-requires-clause-read_in_bounds_2
put_sign-requires-clause-read_in_bounds_2 c =
    let a = c.args in
    omega (arith, c.requires.read_in_bounds_2, (c.put_run-here.ensures.by_index a.one.now a.other.now a.values.now).goes.fits)

pub returns-clause-walks : goal.returns-clause-walks
returns-clause-walks c =
    let a = c.args in
    walk_then a.one.now a.other.now a.form.now a.values.now (c.put_run-here.ensures.by_index a.one.now a.other.now a.values.now) c.put_sign.ensures.walks
