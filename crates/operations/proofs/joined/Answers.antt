use mathlib.Core.Path.{sym}
use native.Mathlib.Omega.{arith}
use Rattle.le.specs.Le.{IsBytes}
use Rattle.join.proofs.Exact.{join_exact}
use Rattle.operations.proofs.joined.Goals as goal

pub returns : goal.returns
unfolding IsBytes
returns c =
    let a = c.args in
    (join_exact a.first.now a.second.now a.out.now (λ i. omega (arith, c.type_inv.first i)) (λ i. omega (arith, c.type_inv.second i)) _).0
    (sym c.join.ensures)
