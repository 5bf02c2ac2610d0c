use mathlib.Core.Path.{ap, ◌∙◌}
use lib.IntN.{nat_abs}
use mir.Syntax.{w64}
use mir.Val.{SFits}
use mir.ValLaws.{to_z-of_z}
use Rattle.ceiling.proofs.Signs.{paid_some, paid_none}
use Rattle.fitting.proofs.own.paid.Goals as goal

pub returns-then-amount-lt0 : goal.returns-then-amount-lt0
returns-then-amount-lt0 c =
    let fits : SFits w64 c.args.amount.0 =
    record { sfits = c.struct_told-1.given.0.1 } in
    let z = c.args.amount.0 in
    let f = fits in
    c.unsigned_abs.ensures.value ∙ ap nat_abs (to_z-of_z w64 z f) ∙ paid_some w64 z f c.if-amount-lt0.true

pub returns-else-amount-lt0 : goal.returns-else-amount-lt0
returns-else-amount-lt0 c =
    let fits : SFits w64 c.args.amount.0 =
    record { sfits = c.struct_told-1.given.0.1 } in
    paid_none w64 c.args.amount.0 fits c.if-amount-lt0.false
