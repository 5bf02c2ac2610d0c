use mathlib.Core.Path.{◌≡◌, refl, ap, ◌∙◌}
use native.Mathlib.Omega.{arith}
use borrow.Author.Rules.{rules}
use lib.ListN.{length}
use Rattle.render.proofs.Placed.{looser, same_put}
use Rattle.annual.specs.Texts.{members_text}
use Rattle.annual.proofs.Rows.{members_none, members_more}
use Rattle.annual.proofs.put_members.Goals as goal

pub loop-i-init : goal.loop-i-init
loop-i-init c = let a = c.args in (refl, members_none a.members.now a.out.now a.at)

pub loop-i-preserved : goal.loop-i-preserved
loop-i-preserved c =
    let l = c.loop-i in
    let a = c.args in
    let long : length a.members.now ≡ 64 = search rules in
    (c.put_line-next.auto.out ∙ l.invariant.0, members_more a.members.now l.i _ (omega arith) l.invariant.1 c.put_line-next.ensures)

pub returns : goal.returns
returns c =
    let l = c.loop-i in
    let a = c.args in
    let long : length a.members.now ≡ 64 = search rules in
    looser _ (omega arith) (same_put (ap (members_text a.members.now) (omega arith)) l.invariant.1)
