use mathlib.Core.Path.{sym}
use native.Mathlib.Omega.{arith}
use Rattle.le.specs.Le.{IsBytes}
use Rattle.book.proofs.Numbers.{refused_exactly}
use Rattle.operations.proofs.checked.Goals as goal

pub returns : goal.returns
unfolding IsBytes
returns c = (refused_exactly c.args.b.now (λ i. omega (arith, c.type_inv.b i)) _).0 (sym c.check.ensures)
