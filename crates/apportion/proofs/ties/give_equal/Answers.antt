use Prim.Native.Nat.{◌<◌}
use native.Mathlib.Omega.{arith}
use lib.ListN.{length}
use Rattle.apportion.proofs.Loops.{get_d_total}
use Rattle.apportion.proofs.InTurn.{given_more, serve_step, turn_le}
use Rattle.apportion.proofs.ties.give_equal.Goals as goal

pub overflow_add-shares : goal.overflow_add-shares
overflow_add-shares c =
    let l = c.loop-i in
    omega (arith, get_d_total l.shares l.i, turn_le c.one_in_turn-x.ensures)

pub loop-i-preserved : goal.loop-i-preserved
loop-i-preserved c =
    let l = c.loop-i in
    let here : l.i < length l.rests = omega arith in
    let x = c.one_in_turn-x.result in
    let t = serve_step c.args.most l.k x l.i l.rests l.shares here (omega arith) l.invariant.1 c.one_in_turn-x.ensures in
    rw c.unless_one.ensures (given_more l.invariant.0 t.0, t.1)
