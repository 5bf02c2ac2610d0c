use mir.Syntax.{w64}
use mir.Val.{SFits}
use mir.ValLaws.{to_z-of_z}
use borrow.Author.Rules.{rules}
use Rattle.year.specs.Year.{most_either_way, is_within}
use Rattle.year.proofs.Signs.{either_way}
use Rattle.year.proofs.judging.is_within.Goals as goal

pub returns : goal.returns
unfolding is_within
returns c =
    let fen-fits : SFits w64 c.args.fen.0 = search rules in
    let z = c.args.fen.0 in
    rw (to_z-of_z w64 z fen-fits) (either_way most_either_way z)
