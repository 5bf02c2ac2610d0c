use mathlib.Core.Path.{sym, ◌∙◌}
use Prim.Native.Nat.{ℕ, ◌*◌, ◌/◌, ◌%◌}
use native.Mathlib.Omega.{arith}
use lib.ListN.{length-set, length-map}
use Rattle.apportion.proofs.Loops.{over_step, get_d_mapped}
use Rattle.apportion.specs.Apportion.{rounded_down, remainders}
use Rattle.product.proofs.Laws.{parts_div, parts_mod}
use Rattle.apportion.proofs.split.Goals as goal

pub loop-i-preserved : goal.loop-i-preserved
loop-i-preserved c =
    let a = c.args in
    let l = c.loop-i in
    let b : ℕ → ℕ = λ w. a.amount * w / a.all in
    let r : ℕ → ℕ = λ w. a.amount * w % a.all in
    let lb = length-map a.weights.now b in
    let lr = length-map a.weights.now r in (
      over_step a.shares.now (rounded_down a.amount a.all a.weights.now) l.shares l.i 0 _ l.invariant.0 (omega arith) (omega arith)
          (get_d_mapped b a.weights.now l.i (omega arith) ∙ sym (parts_div c.product_over-p.ensures)),
      over_step a.rests.now (remainders a.amount a.all a.weights.now) l.rests l.i 0 _ l.invariant.1 (omega arith) (omega arith)
          (get_d_mapped r a.weights.now l.i (omega arith) ∙ sym (parts_mod c.product_over-p.ensures)),
      simp length-set l.invariant.2,
      simp length-set l.invariant.3,
    )
