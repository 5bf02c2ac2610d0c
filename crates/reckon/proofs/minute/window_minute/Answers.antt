use native.Mathlib.Omega.{arith}
use mathlib.Core.Path.{◌≡◌, ◌∙◌, ap}
use Prim.Native.Nat.{ℕ, ◌≤◌}
use Rattle.pay.specs.Event.{clamp}
use Rattle.pay.specs.Window.{reserve_minute}
use Rattle.pay.proofs.Signed.{back32}
use Rattle.reckon.specs.Reckoning.{window_minute}
use Rattle.reckon.specs.Inner.{most_minute}
use Rattle.reckon.proofs.Minutes.{window_deep, window_reserve, window_other, window_most}
use Rattle.reckon.proofs.minute.window_minute.Goals as goal

pub returns-in-1 : goal.returns-in-1
returns-in-1 c =
    let top : c.called_up-top.result.0 ≡ clamp c.args.x.a = simp (back32 c.args.x.a (omega arith)) at c.called_up-top.ensures in
    let most : (p : ℕ) → window_minute c.args.member c.args.x p ≤ most_minute = λ p. let a = c.args in window_most a.member a.x p (omega arith) (omega (arith, top)) in
    let a = c.args in
    let e = c.deep_peak_minute.ensures ∙ window_deep a.member a.x a.p.0 c.in-1.is in
    (e, rw e (most a.p.0))

pub returns-in-2 : goal.returns-in-2
returns-in-2 c =
    let top : c.called_up-top.result.0 ≡ clamp c.args.x.a = simp (back32 c.args.x.a (omega arith)) at c.called_up-top.ensures in
    let most : (p : ℕ) → window_minute c.args.member c.args.x p ≤ most_minute = λ p. let a = c.args in window_most a.member a.x p (omega arith) (omega (arith, top)) in
    let a = c.args in
    let called = ap (λ (k : ℕ). reserve_minute a.member.kind a.member.rated.0 k a.p.0) top in
    let e = c.reserve_minute.ensures ∙ called ∙ window_reserve a.member a.x a.p.0 c.in-2.is in
    (e, rw e (most a.p.0))

pub returns-in_default : goal.returns-in_default
returns-in_default c =
    let top : c.called_up-top.result.0 ≡ clamp c.args.x.a = simp (back32 c.args.x.a (omega arith)) at c.called_up-top.ensures in
    let most : (p : ℕ) → window_minute c.args.member c.args.x p ≤ most_minute = λ p. let a = c.args in window_most a.member a.x p (omega arith) (omega (arith, top)) in
    let a = c.args in
    let e = window_other a.member a.x a.p.0 (λ e. omega arith) (λ e. omega arith) in
    (e, rw e (most a.p.0))
