use native.Mathlib.Omega.{arith}
use mathlib.Core.Path.{◌≡◌}
use mathlib.Core.Bool.{true, false}
use Rattle.pay.specs.Event.{energy_pay}
use lib.IntN.{pos}
use lib.Signed.{lt_z}
use Rattle.pay.proofs.Signed.{clamp_neg, clamp_not, back64}
use Rattle.pay.proofs.event.month_pay.Goals as goal

pub returns-then-a-lt0 : goal.returns-then-a-lt0
unfolding energy_pay
returns-then-a-lt0 c =
    let x = c.args.x.0 in
    let t : lt_z x (pos 0) ≡ true = simp (back64 x (omega arith)) at c.if-a-lt0.true in
    simp (clamp_neg x t) (omega arith)

pub returns : goal.returns
unfolding energy_pay
returns c =
    let x = c.args.x.0 in
    let t : lt_z x (pos 0) ≡ false = simp (back64 x (omega arith)) at c.if-a-lt0.false in
    simp (back64 x (omega arith), clamp_not x t)
