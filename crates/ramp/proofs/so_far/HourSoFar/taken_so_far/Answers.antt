use native.Mathlib.Omega.{arith}
use Rattle.ramp.proofs.Paid.{errors_most, taken_most}
use Rattle.ramp.proofs.so_far.HourSoFar.taken_so_far.Goals as goal

pub overflow_mul-result : goal.overflow_mul-result
overflow_mul-result c = omega (arith, errors_most c.args.self c.requires)

pub overflow_mul-result-2 : goal.overflow_mul-result-2
overflow_mul-result-2 c = omega (arith, taken_most c.args.self c.requires)
