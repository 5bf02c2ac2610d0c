use mathlib.Core.Path.{◌≡◌}
use mathlib.Core.Bool.{true, false}
use lib.IntN.{pos}
use lib.Signed.{lt_z}
use Rattle.pay.proofs.Signed.{clamp_neg, clamp_not, back32}
use Rattle.pay.proofs.event.called_up.Goals as goal

pub returns-then-a-lt0 : goal.returns-then-a-lt0
returns-then-a-lt0 c =
    let a = c.args.a in
    let f = c.ranges.a.sfits in
    let t : lt_z a (pos 0) ≡ true = simp (back32 a f) at c.if-a-lt0.true in
    simp (clamp_neg a t)

pub returns : goal.returns
returns c =
    let a = c.args.a in
    let f = c.ranges.a.sfits in
    let t : lt_z a (pos 0) ≡ false = simp (back32 a f) at c.if-a-lt0.false in
    simp (back32 a f, clamp_not a t)
