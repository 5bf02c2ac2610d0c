use Prim.Native.Nat.{◌%◌}
use native.Mathlib.Nat.{mod-lt}
use native.Mathlib.Omega.{arith}
use Rattle.product.proofs.Laws.{parts_le}
use Rattle.ramp.proofs.Paid.{whole_most, split_over}
use Rattle.ramp.proofs.so_far.times_over.Goals as goal

pub overflow_add-result : goal.overflow_add-result
overflow_add-result c =
    omega (
      arith,
      whole_most c.args.n c.args.worth c.args.all c.requires.all_nonzero.0 c.requires.n_bound c.requires.worth_bound,
      parts_le c.args.n (c.args.worth % c.args.all) c.product_over-part.ensures (omega (arith, mod-lt c.args.worth c.requires.all_nonzero.0)),
    )

pub returns : goal.returns
returns c =
    split_over c.args.n c.args.worth c.args.all c.product_over-part.result.q c.product_over-part.result.r c.requires.all_nonzero.0 c.product_over-part.ensures
