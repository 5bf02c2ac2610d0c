use native.Mathlib.Omega.{arith}
use Rattle.ramp.proofs.Paid.{over_most}
use Rattle.ramp.proofs.so_far.HourSoFar.over_so_far.Goals as goal

pub overflow_mul-result-2 : goal.overflow_mul-result-2
overflow_mul-result-2 c = omega (arith, over_most c.args.self c.requires.goes c.args.rated.0 c.requires.rated_le_most_rated)
