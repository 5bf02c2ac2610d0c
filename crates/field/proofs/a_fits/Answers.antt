use mathlib.Core.Path.{refl}
use mir.Syntax.{w32}
use mir.Val.{SFits}
use mir.ValLaws.{to_z-of_z}
use borrow.Author.Rules.{rules}
use Rattle.field.specs.Field.{a_fits}
use Rattle.field.proofs.a_fits.Goals as goal

pub returns : goal.returns
unfolding a_fits
returns c =
    let l = c.args.l in
    let x = c.args.x in
    let low_fits : SFits w32 l.low = search rules in
    let high_fits : SFits w32 l.high = search rules in
    let some_fits : SFits w32 x.a = search rules in
    rw (to_z-of_z w32 l.low low_fits, to_z-of_z w32 l.high high_fits, to_z-of_z w32 x.a some_fits) refl
