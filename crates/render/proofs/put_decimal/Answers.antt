use Prim.Native.Nat.{◌≤◌}
use native.Mathlib.Omega.{arith}
use lib.ListN.{length}
use Rattle.render.specs.Decimal.{decimal}
use Rattle.render.proofs.Placed.{looser}
use Rattle.render.proofs.Decimals.{most_digits}
use borrow.Author.Rules.{rules}
use Rattle.render.proofs.put_decimal.Goals as goal

pub put_digits-requires : goal.put_digits-requires
put_digits-requires c =
    let l : length (decimal c.args.n) ≤ 20 = most_digits c.args.n (omega arith) in
    search rules

pub returns : goal.returns
returns c =
    let n = c.args.n in
    looser 20 (most_digits n (omega arith)) c.put_digits.ensures
