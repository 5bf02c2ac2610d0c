use mathlib.Core.Path.{◌≡◌, sym, ◌∙◌}
use mathlib.Core.Bool.{true, false}
use Prim.Native.Nat.{◌*◌}
use lib.Dec.{leb}
use lib.IntN.{nat_abs}
use mir.Syntax.{w64}
use mir.Val.{SFits}
use mir.ValLaws.{to_z-of_z}
use borrow.Author.Rules.{rules}
use Rattle.year.specs.Year.{most_statements, most_either_way}
use Rattle.year.specs.Every.{signed_plus}
use Rattle.year.proofs.Signs.{either_way}
use Rattle.year.proofs.member.signed_plus.Goals as goal

pub returns-then-sum : goal.returns-then-sum
unfolding signed_plus
returns-then-sum c =
    let fits : SFits w64 c.args.a.0 = search rules in
    let near : leb (nat_abs c.args.a.0) (most_statements * most_either_way) ≡ true = let z = c.args.a.0 in
    sym (either_way (most_statements * most_either_way) z) ∙ (rw (to_z-of_z w64 z fits) at c.if-sum.true) in
    rw near c.added.ensures

pub returns : goal.returns
unfolding signed_plus
returns c =
    let fits : SFits w64 c.args.a.0 = search rules in
    let z = c.args.a.0 in
    let far : leb (nat_abs z) (most_statements * most_either_way) ≡ false =
    sym (either_way (most_statements * most_either_way) z) ∙ (rw (to_z-of_z w64 z fits) at c.if-sum.false) in
    rw far
