use mathlib.Core.Path.{refl}
use Prim.Native.Nat.{◌%◌}
use lib.Dec.{eqb}
use mir.Syntax.{w32}
use mir.Val.{SFits}
use mir.ValLaws.{to_z-of_z}
use borrow.Author.Rules.{rules}
use Rattle.units.specs.Month.{minutes_per_quarter}
use Rattle.call.specs.Limits.{limits_allow}
use Rattle.call.proofs.Limits.{uneven, even}
use Rattle.call.proofs.service.Limits.allow.Goals as goal

pub returns-then-self-x : goal.returns-then-self-x
unfolding limits_allow
returns-then-self-x c =
    let args = c.args in
    rw (uneven args.self.quarters (eqb (args.x.start % minutes_per_quarter) 0) (eqb (args.x.length % minutes_per_quarter) 0) c.if-self-x.true) refl

pub returns : goal.returns
unfolding limits_allow
returns c =
    let args = c.args in
    let low_fits : SFits w32 args.self.low = search rules in
    let high_fits : SFits w32 args.self.high = search rules in
    let a-fits : SFits w32 args.x.a = search rules in
    rw (
      to_z-of_z w32 args.self.low low_fits,
      to_z-of_z w32 args.self.high high_fits,
      to_z-of_z w32 args.x.a a-fits,
      even args.self.quarters (eqb (args.x.start % minutes_per_quarter) 0) (eqb (args.x.length % minutes_per_quarter) 0) c.if-self-x.false,
    ) refl
