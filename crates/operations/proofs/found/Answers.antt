use native.Mathlib.Omega.{arith}
use Rattle.le.specs.Le.{IsBytes}
use Rattle.operations.proofs.Finding.{find-verdict}
use Rattle.operations.proofs.found.Goals as goal

pub returns : goal.returns
unfolding IsBytes
returns c =
    let a = c.args in
    find-verdict a.first a.second _ a.participant a.number (λ i. omega (arith, c.type_inv.first i)) (λ i. omega (arith, c.type_inv.second i)) c.find.ensures
