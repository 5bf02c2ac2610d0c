use mathlib.Core.Path.{◌≡◌, sym, ap, ◌∙◌}
use Prim.Native.Nat.{ℕ}
use native.Mathlib.Omega.{arith}
use lib.ListN.{get_or, length-set, length-map}
use Rattle.apportion.specs.Bar.{one_above, unless_served, strike_above, give_above}
use Rattle.apportion.proofs.Loops.{over_step, over_here, over_end, get_d_mapped, get_d_total}
use Rattle.apportion.proofs.Turns.{length_raised, raised_at, total_raised}
use Rattle.apportion.proofs.bar.give_above.Goals as goal

pub overflow_add-shares : goal.overflow_add-shares
overflow_add-shares c =
    let l = c.loop-i in
    let rs = c.args.rests.now in
    let ss = c.args.shares.now in
    let up = give_above c.args.bar rs ss in
    let lu = length_raised c.args.bar rs ss c.requires.shares_len in
    let lr = length-map rs (λ (r : ℕ). unless_served c.args.bar r) in
    let r : get_or l.rests l.i 0 ≡ get_or rs l.i 0 = over_here rs (strike_above c.args.bar rs) l.rests l.i 0 l.invariant.0 (omega arith) (omega arith) in
    let b = over_here ss up l.shares l.i 0 l.invariant.1 (omega arith) (omega arith) in
    let one = raised_at c.args.bar rs ss l.i (omega arith) c.requires.shares_len in
    omega (arith, c.one_above.ensures, ap (one_above c.args.bar) r, b, one, get_d_total up l.i, total_raised c.args.bar rs ss c.requires.shares_len)

pub loop-i-preserved : goal.loop-i-preserved
loop-i-preserved c =
    let l = c.loop-i in
    let bar = c.args.bar in
    let rs = c.args.rests.now in
    let ss = c.args.shares.now in
    let up = give_above bar rs ss in
    let lu = length_raised bar rs ss c.requires.shares_len in
    let lr = length-map rs (λ (r : ℕ). unless_served bar r) in
    let r : get_or l.rests l.i 0 ≡ get_or rs l.i 0 = over_here rs (strike_above bar rs) l.rests l.i 0 l.invariant.0 (omega arith) (omega arith) in
    let b = over_here ss up l.shares l.i 0 l.invariant.1 (omega arith) (omega arith) in (
      over_step rs (strike_above bar rs) l.rests l.i 0 _ l.invariant.0 (omega arith) (omega arith)
          (get_d_mapped (λ (r : ℕ). unless_served bar r) rs l.i (omega arith) ∙ ap (unless_served bar) (sym r) ∙ sym c.unless_served.ensures),
      over_step ss up l.shares l.i 0 _ l.invariant.1 (omega arith) (omega arith)
          (omega (arith, raised_at bar rs ss l.i (omega arith) c.requires.shares_len, ap (one_above bar) r, b, c.one_above.ensures)),
      simp length-set l.invariant.2,
      simp length-set l.invariant.3,
    )

pub returns : goal.returns
returns c =
    let l = c.loop-i in
    let bar = c.args.bar in
    let rs = c.args.rests.now in
    let ss = c.args.shares.now in
    let lu = length_raised bar rs ss c.requires.shares_len in
    let lr = length-map rs (λ (r : ℕ). unless_served bar r) in record {
      shares_after = over_end ss (give_above bar rs ss) _ l.i l.invariant.1 (omega arith) (omega arith);
      rests_after = over_end rs (strike_above bar rs) _ l.i l.invariant.0 (omega arith) (omega arith);
    }
