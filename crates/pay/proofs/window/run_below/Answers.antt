use native.Mathlib.Omega.{arith}
use native.Mathlib.Nat.{mul-le-mul}
use Rattle.pay.proofs.window.run_below.Goals as goal

pub overflow_mul-minute : goal.overflow_mul-minute
overflow_mul-minute c = omega (arith, mul-le-mul c.run_lacking-short.ensures.1 c.requires.grains_bound)

pub overflow_mul-result : goal.overflow_mul-result
overflow_mul-result c = omega (arith, mul-le-mul c.run_lacking-short.ensures.1 c.requires.grains_bound)
