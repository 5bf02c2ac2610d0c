use mir.Syntax.{w32}
use mir.Val.{SFits}
use mir.ValLaws.{to_z-of_z}
use borrow.Author.Rules.{rules}
use Rattle.text.proofs.record.say_call.Goals as goal

pub returns-clause-renders : goal.returns-clause-renders
returns-clause-renders c =
    let a-fits : SFits w32 c.args.x.a = search rules in
    let a = rw (to_z-of_z w32 _ a-fits) at c.signed_bits32-a.ensures in
    rw (c.flag-live.ensures, c.flag-contested.ensures, c.flag-withdrawn.ensures, a) at c.say.ensures.renders
