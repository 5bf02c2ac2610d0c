use mathlib.Core.Path.{◌≡◌}
use mathlib.Core.Bool.{true, false, ◌||◌}
use lib.Dec.{eqb}
use lib.Signed.{lt_z}
use mir.Syntax.{w64}
use mir.Val.{SFits}
use mir.ValLaws.{to_z-of_z}
use borrow.Author.Rules.{rules}
use Rattle.year.specs.Every.{largest_with}
use Rattle.year.proofs.member.largest_with.Goals as goal

pub returns-then-g-most : goal.returns-then-g-most
unfolding largest_with
returns-then-g-most c =
    let most-fits : SFits w64 c.args.g.amount.0 = search rules in
    let now-fits : SFits w64 c.args.amount.0 = search rules in
    let t : (eqb c.args.g.month 0 || lt_z c.args.g.amount.0 c.args.amount.0) ≡ true =
    simp (to_z-of_z w64 c.args.g.amount.0 most-fits, to_z-of_z w64 c.args.amount.0 now-fits) at c.if-g-most.true in
    rw t

pub returns : goal.returns
unfolding largest_with
returns c =
    let most-fits : SFits w64 c.args.g.amount.0 = search rules in
    let now-fits : SFits w64 c.args.amount.0 = search rules in
    let t : (eqb c.args.g.month 0 || lt_z c.args.g.amount.0 c.args.amount.0) ≡ false =
    simp (to_z-of_z w64 c.args.g.amount.0 most-fits, to_z-of_z w64 c.args.amount.0 now-fits) at c.if-g-most.false in
    rw t
