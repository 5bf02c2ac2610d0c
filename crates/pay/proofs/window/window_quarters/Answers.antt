use native.Mathlib.Omega.{arith}
use mathlib.Core.Path.{◌≡◌, sym}
use Prim.Native.Nat.{◌/◌}
use Rattle.pay.specs.Window.{window_quarters}
use Rattle.pay.proofs.Sums.{total_none, total_step}
use borrow.Author.Rules.{rules}
use Rattle.pay.proofs.window.window_quarters.Goals as goal

pub loop-k-init : goal.loop-k-init
loop-k-init c = (search rules, sym (total_none _ _))

pub loop-k-preserved : goal.loop-k-preserved
loop-k-preserved c = (search rules, total_step _ _ _ c.loop-k.invariant.1 c.quarter_counts-one.ensures.0)

pub returns : goal.returns
unfolding window_quarters
returns c = let e : c.loop-k.k ≡ c.args.minutes / 15 = omega arith in rw (← e) c.loop-k.invariant.1
