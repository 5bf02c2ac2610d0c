use mathlib.Core.Path.{◌≡◌, ap, ap₂, ◌∙◌}
use mathlib.Core.List.{List}
use Prim.Native.Nat.{ℕ, ◌-◌}
use native.Mathlib.Omega.{arith}
use lib.ListN.{length, length-map}
use Rattle.apportion.specs.Apportion.{total}
use Rattle.apportion.specs.Giving.{give_out}
use Rattle.apportion.specs.Bar.{unless_served, strike_above, give_above}
use Rattle.apportion.proofs.Turns.{give_above_lem, length_raised, total_raised}
use Rattle.apportion.proofs.give_by_bar.Goals as goal

pub give_out-requires : goal.give_out-requires
give_out-requires c =
    let bar = c.bar_for-bar.result in
    let rs = c.args.rests.now in
    let ss = c.args.shares.now in
    let lr : length c.give_above.new.rests ≡ length rs = ap length c.give_above.ensures.rests_after ∙ length-map rs (λ (r : ℕ). unless_served bar r) in
    let ls : length c.give_above.new.shares ≡ length ss = ap length c.give_above.ensures.shares_after ∙ length_raised bar rs ss c.requires.can_give.1 in
    let t : total c.give_above.new.shares ≡ total (give_above bar rs ss) = ap total c.give_above.ensures.shares_after in
    let n = c.count_above-served.ensures in
    let m = c.bar_for-bar.ensures in
    (omega arith, omega arith, omega (arith, total_raised bar rs ss c.requires.can_give.1, n, m))

pub returns : goal.returns
returns c =
    let bar = c.bar_for-bar.result in
    let rs = c.args.rests.now in
    let ss = c.args.shares.now in
    c.give_out.ensures
    ∙ ap₂ (λ (x y : List ℕ). give_out (c.args.left - c.count_above-served.result) x y) c.give_above.ensures.rests_after c.give_above.ensures.shares_after
    ∙ ap (λ (k : ℕ). give_out (c.args.left - k) (strike_above bar rs) (give_above bar rs ss)) c.count_above-served.ensures
    ∙ give_above_lem c.args.left bar rs ss c.bar_for-bar.ensures.rests_bound c.requires.can_give.1
