use native.Mathlib.Omega.{arith}
use native.Mathlib.Decide.{dec_lt}
use mathlib.Core.Path.{◌≡◌, sym, ◌∙◌}
use Prim.Native.Nat.{◌^◌, ◌<◌}
use lib.Signed.{mag}
use Rattle.pay.specs.Event.{event_wh}
use Rattle.pay.proofs.Signed.{back32}
use Rattle.reckon.proofs.OtherPay.{energy_turned, deep_turned, reserve_turned, rated_turned}
use Rattle.reckon.proofs.others.other_live.Goals as goal

pub returns-then-is_by_energy : goal.returns-then-is_by_energy
returns-then-is_by_energy c =
    let a-fits : mag c.args.x.a < 2 ^ 31 = omega arith in
    let a = c.args in
    let e : c.event_wh-wh.result.0 ≡ event_wh a.x.a a.x.b a.x.c = simp (back32 a.x.a a-fits) at c.event_wh-wh.ensures.0 in
    energy_turned a.member a.x c.requires.x_value_2 (sym c.is_by_energy.ensures ∙ c.if-is_by_energy.true) _ e c.event_wh-wh.ensures.1

pub returns-in-1 : goal.returns-in-1
returns-in-1 c =
    let a = c.args in
    let h = sym c.is_by_energy.ensures ∙ c.if-is_by_energy.false in
    elim (dec_lt a.x.service 2) [
      | yes l ↦ deep_turned a.member a.x c.requires.x_value_2 h (omega arith)
      | no l ↦ reserve_turned a.member a.x c.requires.x_value_2 h (omega arith)
    ]

pub returns-in_default : goal.returns-in_default
returns-in_default c =
    let e = c.live_pay-grains.ensures in
    let h = sym c.is_by_energy.ensures ∙ c.if-is_by_energy.false in
    rated_turned c.args.member c.args.x c.requires.x_value_2 h c.args.series.now (λ e. omega arith) (λ e. omega arith) _ e.0 e.1
