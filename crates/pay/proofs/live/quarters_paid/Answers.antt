use native.Mathlib.Omega.{arith}
use mathlib.Core.Path.{◌≡◌, sym, ◌∙◌, ap}
use Prim.Native.Nat.{ℕ, ◌+◌, ◌*◌, ◌≤◌}
use lib.ListN.{length}
use Rattle.call.specs.Services.{reserve}
use Rattle.pay.specs.Event.{clamp}
use Rattle.pay.specs.Window.{window_quarters}
use Rattle.pay.proofs.Signed.{back32}
use Rattle.pay.proofs.Cases.{quarters_1, quarters_2, quarters_rest}
use Rattle.pay.proofs.Bounds.{ends_within, called_most}
use Rattle.pay.proofs.live.quarters_paid.Goals as goal

pub window_quarters-requires-clause-minutes_per_quarter_in_bounds : goal.window_quarters-requires-clause-minutes_per_quarter_in_bounds
window_quarters-requires-clause-minutes_per_quarter_in_bounds c =
    let ends : c.args.x.start + c.args.x.length ≤ 15 * length c.args.series.now = ends_within _ _ c.requires.x_value in
    omega (arith, ends)

pub window_quarters-requires-in-2-clause-top_le_most_rated : goal.window_quarters-requires-in-2-clause-top_le_most_rated
window_quarters-requires-in-2-clause-top_le_most_rated c =
    let ends : c.args.x.start + c.args.x.length ≤ 15 * length c.args.series.now = ends_within _ _ c.requires.x_value in
    let top : c.called_up-top.result.0 ≡ clamp c.args.x.a = simp (back32 c.args.x.a (omega arith)) at c.called_up-top.ensures in
    omega (arith, ends, top, called_most _ c.args.x c.requires.x_value c.in-2.is)

pub window_quarters-requires-in-2-clause-minutes_per_quarter_in_bounds : goal.window_quarters-requires-in-2-clause-minutes_per_quarter_in_bounds
window_quarters-requires-in-2-clause-minutes_per_quarter_in_bounds c =
    let ends : c.args.x.start + c.args.x.length ≤ 15 * length c.args.series.now = ends_within _ _ c.requires.x_value in
    let top : c.called_up-top.result.0 ≡ clamp c.args.x.a = simp (back32 c.args.x.a (omega arith)) at c.called_up-top.ensures in
    omega (arith, ends, top, called_most _ c.args.x c.requires.x_value c.in-2.is)

pub returns-in-1 : goal.returns-in-1
returns-in-1 c = c.window_quarters.ensures ∙ sym (quarters_1 _ _ _ c.in-1.is)

pub returns-in-2 : goal.returns-in-2
returns-in-2 c =
    let top : c.called_up-top.result.0 ≡ clamp c.args.x.a = simp (back32 c.args.x.a (omega arith)) at c.called_up-top.ensures in
    let a = c.args in
    c.window_quarters-in-2.ensures ∙ ap (λ (p : ℕ). window_quarters a.member reserve p a.series.now a.x.start a.x.length) top
    ∙ sym (quarters_2 _ _ _ c.in-2.is)

pub returns-in_default : goal.returns-in_default
returns-in_default c = sym (quarters_rest _ _ _ (λ e. omega arith) (λ e. omega arith))
