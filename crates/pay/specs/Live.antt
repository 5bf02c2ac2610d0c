-- A live call: its grains, the quarter hours that pay, and the energy of its event. Assumes nothing.
use Rattle.std.specs.Prelude.{cond, List, ℕ, eqb, ℤ, pos}
use Rattle.call.specs.declared.Call.{Call}
use Rattle.call.specs.Services.{deep_peak, reserve, frequency_event}
use Rattle.pay.specs.declared.Member.{Member}
use Rattle.pay.specs.Member.{is_by_rate}
use Rattle.pay.specs.Window.{window_pay, window_quarters}
use Rattle.pay.specs.Rate.{rated_pay}
use Rattle.pay.specs.Event.{event_wh, called_up}

-- grains: 1 and 2 by the window, 2 up to the power a that is called; 3 to 10 by the rate
unfoldable pub live_pay : Member → List ℕ → Call → ℕ
live_pay m series x =
    cond (eqb x.service deep_peak) (window_pay m deep_peak 0 series x.start x.length)
    (cond (eqb x.service reserve) (window_pay m reserve (called_up x.a) series x.start x.length)
    (rated_pay m x))

-- quarter hours that pay something: of 1 and 2, the called power as above; the others have none
unfoldable pub quarters_paid : Member → List ℕ → Call → ℕ
quarters_paid m series x =
    cond (eqb x.service deep_peak) (window_quarters m deep_peak 0 series x.start x.length)
    (cond (eqb x.service reserve) (window_quarters m reserve (called_up x.a) series x.start x.length)
    0)

-- energy: of an event of a kind that is not paid by rate; it is summed over the month, and paid then
unfoldable pub live_wh : ℕ → Call → ℤ
live_wh kind x = cond (eqb x.service frequency_event) (cond (is_by_rate kind) (pos 0) (event_wh x.a x.b x.c)) (pos 0)
