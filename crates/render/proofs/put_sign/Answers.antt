use mir.Syntax.{w64}
use mir.Val.{SFits}
use native.Mathlib.Omega.{arith}
use borrow.Author.Rules.{rules}
use Rattle.render.proofs.Placed.{looser, none_put, same_put}
use Rattle.render.proofs.Decimals.{sign_below, sign_above}
use Rattle.render.proofs.put_sign.Goals as goal

pub returns-then-n-lt0 : goal.returns-then-n-lt0
returns-then-n-lt0 c =
    let f : SFits w64 c.args.n = search rules in
    same_put (sign_below c.args.n f c.if-n-lt0.true) c.put_word.ensures

pub returns-else-n-lt0 : goal.returns-else-n-lt0
returns-else-n-lt0 c =
    let f : SFits w64 c.args.n = search rules in
    same_put (sign_above c.args.n f c.if-n-lt0.false) (looser 1 (omega arith) (none_put c.args.out.now c.args.at))
