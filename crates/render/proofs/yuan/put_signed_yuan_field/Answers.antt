use mir.Syntax.{w64}
use mir.Val.{SFits}
use mir.ValLaws.{to_z-of_z}
use Rattle.render.proofs.Placed.{and_then}
use borrow.Author.Rules.{rules}
use Rattle.render.proofs.yuan.put_signed_yuan_field.Goals as goal

pub returns : goal.returns
returns c =
    let f : SFits w64 c.args.n = search rules in
    and_then c.put_word-next.ensures (rw (to_z-of_z w64 c.args.n f) at c.put_signed_yuan.ensures)
