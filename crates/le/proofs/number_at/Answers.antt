use mathlib.Core.Path.{refl}
use Prim.Native.Nat.{◌+◌, ◌-◌}
use native.Mathlib.Omega.{arith}
use Rattle.le.proofs.Laws.{none, more, below, moved}
use Rattle.le.proofs.number_at.Goals as goal

pub loop-k-init : goal.loop-k-init
loop-k-init c = moved refl (omega arith) (none _ _)

pub overflow_mul-v : goal.overflow_mul-v
overflow_mul-v c = omega (arith, below 7 (omega arith) c.loop-k.invariant)

pub overflow_add-v : goal.overflow_add-v
overflow_add-v c =
    let l = c.loop-k in
    let a = c.args in
    omega (arith, below 7 (omega arith) l.invariant, c.type_inv.s (a.at + (l.k - 1)))

pub loop-k-preserved : goal.loop-k-preserved
loop-k-preserved c =
    let l = c.loop-k in
    let a = c.args in
    moved refl (omega arith)
    (more a.s.now (a.at + (l.k - 1)) (a.width - l.k) l.v c.from.result c.from.ensures
    (omega (arith, c.type_inv.s (a.at + (l.k - 1))))
    (moved (omega arith) refl l.invariant))
