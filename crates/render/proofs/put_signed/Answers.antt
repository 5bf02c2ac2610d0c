use Prim.Native.Nat.{◌≤◌}
use native.Mathlib.Omega.{arith}
use lib.ListN.{length}
use mir.Syntax.{w64}
use mir.Val.{SFits}
use borrow.Author.Rules.{rules}
use Rattle.render.specs.Decimal.{decimal}
use Rattle.render.proofs.Placed.{and_then, looser, same_put}
use Rattle.render.proofs.Decimals.{most_signed, signed_is}
use Rattle.render.proofs.put_signed.Goals as goal

pub put_digits-requires : goal.put_digits-requires
put_digits-requires c =
    let f : SFits w64 c.args.n = search rules in
    let l : length (decimal c.size.result) ≤ 19 = most_signed c.args.n f c.size.result c.size.ensures in
    let s = c.put_sign-next.ensures in
    omega (arith, l, s.fits, s.behind, c.requires)

pub returns : goal.returns
returns c =
    let f : SFits w64 c.args.n = search rules in
    let z = c.size in
    let l : length (decimal z.result) ≤ 19 = most_signed c.args.n f z.result z.ensures in
    same_put (signed_is c.args.n f z.result z.ensures) (looser 20 (omega arith) (and_then c.put_sign-next.ensures c.put_digits.ensures))
