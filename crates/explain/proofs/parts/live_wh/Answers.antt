use native.Mathlib.Omega.{arith}
use mathlib.Core.Path.{◌≡◌, sym, ◌∙◌}
use Prim.Native.Nat.{◌^◌, ◌<◌}
use lib.Signed.{mag}
use Rattle.pay.proofs.Signed.{back32}
use Rattle.pay.proofs.Cases.{energy_wh, no_energy}
use Rattle.pay.specs.Event.{event_wh}
use Rattle.explain.proofs.parts.live_wh.Goals as goal

pub returns-then-is_by_energy : goal.returns-then-is_by_energy
returns-then-is_by_energy c =
    let a-fits : mag c.args.x.a < 2 ^ 31 = omega arith in
    let a = c.args in
    let e : c.event_wh.result.0 ≡ event_wh a.x.a a.x.b a.x.c = simp (back32 a.x.a a-fits) at c.event_wh.ensures.0 in
    (e ∙ sym (energy_wh a.member a.x (sym c.is_by_energy.ensures ∙ c.if-is_by_energy.true)), c.event_wh.ensures.1)

pub returns : goal.returns
returns c =
    let a = c.args in
    (sym (no_energy a.member.kind a.x (sym c.is_by_energy.ensures ∙ c.if-is_by_energy.false)), omega arith)
