use mir.Syntax.{w64}
use mir.Val.{SFits}
use borrow.Author.Rules.{rules}
use Rattle.render.proofs.Placed.{and_then, same_put}
use Rattle.render.proofs.Yuans.{signed_yuan_is}
use Rattle.render.proofs.yuan.put_signed_yuan.Goals as goal

pub returns : goal.returns
returns c =
    let f : SFits w64 c.args.n = search rules in
    same_put (signed_yuan_is c.args.n f c.size.result c.size.ensures) (and_then c.put_sign-next.ensures c.put_yuan.ensures)
