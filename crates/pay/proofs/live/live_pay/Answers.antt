use native.Mathlib.Omega.{arith}
use mathlib.Core.Path.{◌≡◌, sym, ◌∙◌, ap}
use Prim.Native.Nat.{ℕ, ◌+◌, ◌*◌, ◌≤◌}
use lib.ListN.{length}
use Rattle.call.specs.Services.{deep_peak, reserve}
use Rattle.pay.specs.Event.{clamp}
use Rattle.pay.specs.Window.{window_pay}
use Rattle.pay.proofs.Signed.{back32}
use Rattle.pay.proofs.Cases.{live_1, live_2, live_rest}
use Rattle.pay.proofs.Bounds.{window_most, rated_most, ends_within, b_is_rate, called_most}
use Rattle.pay.proofs.live.live_pay.Goals as goal

pub window_pay-requires-clause-minutes_per_quarter_in_bounds : goal.window_pay-requires-clause-minutes_per_quarter_in_bounds
window_pay-requires-clause-minutes_per_quarter_in_bounds c =
    let ends : c.args.x.start + c.args.x.length ≤ 15 * length c.args.series.now = ends_within _ _ c.requires.x_value in
    omega (arith, ends)

pub window_pay-requires-in-2-clause-top_le_most_rated : goal.window_pay-requires-in-2-clause-top_le_most_rated
window_pay-requires-in-2-clause-top_le_most_rated c =
    let ends : c.args.x.start + c.args.x.length ≤ 15 * length c.args.series.now = ends_within _ _ c.requires.x_value in
    let top : c.called_up-top.result.0 ≡ clamp c.args.x.a = simp (back32 c.args.x.a (omega arith)) at c.called_up-top.ensures in
    omega (arith, ends, top, called_most _ c.args.x c.requires.x_value c.in-2.is)

pub window_pay-requires-in-2-clause-minutes_per_quarter_in_bounds : goal.window_pay-requires-in-2-clause-minutes_per_quarter_in_bounds
window_pay-requires-in-2-clause-minutes_per_quarter_in_bounds c =
    let ends : c.args.x.start + c.args.x.length ≤ 15 * length c.args.series.now = ends_within _ _ c.requires.x_value in
    let top : c.called_up-top.result.0 ≡ clamp c.args.x.a = simp (back32 c.args.x.a (omega arith)) at c.called_up-top.ensures in
    omega (arith, ends, top, called_most _ c.args.x c.requires.x_value c.in-2.is)

pub rated_pay-requires : goal.rated_pay-requires
rated_pay-requires c =
    let ends : c.args.x.start + c.args.x.length ≤ 15 * length c.args.series.now = ends_within _ _ c.requires.x_value in
    record { rated_le_most_rated = c.requires.rated_le_most_rated; length_le_most_minutes = omega (arith, ends); b_bound = b_is_rate _ _ c.requires.x_value }

pub returns-in-1 : goal.returns-in-1
returns-in-1 c =
    let ends : c.args.x.start + c.args.x.length ≤ 15 * length c.args.series.now = ends_within _ _ c.requires.x_value in
    let a = c.args in (
      c.window_pay.ensures ∙ sym (live_1 _ _ _ c.in-1.is),
      rw c.window_pay.ensures (window_most a.member deep_peak 0 a.series.now a.x.start a.x.length (omega arith) (omega arith) (omega (arith, ends))),
    )

pub returns-in-2 : goal.returns-in-2
returns-in-2 c =
    let ends : c.args.x.start + c.args.x.length ≤ 15 * length c.args.series.now = ends_within _ _ c.requires.x_value in
    let top : c.called_up-top.result.0 ≡ clamp c.args.x.a = simp (back32 c.args.x.a (omega arith)) at c.called_up-top.ensures in
    let a = c.args in
    let k = c.in-2.is in
    let e = c.window_pay-in-2.ensures ∙ ap (λ (p : ℕ). window_pay a.member reserve p a.series.now a.x.start a.x.length) top in (
      e ∙ sym (live_2 _ _ _ k),
      rw e (window_most a.member reserve (clamp a.x.a) a.series.now a.x.start a.x.length (omega arith) (called_most _ a.x c.requires.x_value k) (omega (arith, ends))),
    )

pub returns-in_default : goal.returns-in_default
returns-in_default c =
    let ends : c.args.x.start + c.args.x.length ≤ 15 * length c.args.series.now = ends_within _ _ c.requires.x_value in
    let a = c.args in (
      c.rated_pay.ensures ∙ sym (live_rest _ _ _ (λ e. omega arith) (λ e. omega arith)),
      rw c.rated_pay.ensures (rated_most a.member a.x (omega arith) (omega (arith, ends)) (b_is_rate _ _ c.requires.x_value)),
    )
