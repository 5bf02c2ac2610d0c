use native.Mathlib.Omega.{arith}
use mathlib.Core.Path.{◌≡◌, ◌∙◌, ap}
use Prim.Native.Nat.{◌^◌, ◌<◌}
use lib.Signed.{mag}
use Rattle.call.specs.declared.Call.{Call}
use Rattle.book.specs.Book.{record_at}
use Rattle.pay.specs.Event.{event_wh}
use Rattle.pay.proofs.Signed.{back32}
use Rattle.score.proofs.Energy.{energy_turned}
use Rattle.score.proofs.records.energy_turn.Goals as goal

pub returns : goal.returns
returns c =
    let a-fits : mag c.record_at-x.result.a < 2 ^ 31 = omega arith in
    let x = c.record_at-x in
    let e : c.event_wh-wh.result.0 ≡ event_wh x.result.a x.result.b x.result.c = simp (back32 x.result.a a-fits) at c.event_wh-wh.ensures.0 in
    λ month series.
    energy_turned month c.args.member series (record_at c.args.b.now) c.args.i c.requires.i_value c.requires.i_value_2 _
    (e ∙ ap (λ (y : Call). event_wh y.a y.b y.c) x.ensures) c.event_wh-wh.ensures.1
