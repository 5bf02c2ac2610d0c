use native.Mathlib.Omega.{arith}
use Rattle.ramp.proofs.Paid.{rates_most, right_most, delay_le, early_most, given_most}
use Rattle.ramp.proofs.so_far.HourSoFar.given_so_far.Goals as goal

pub overflow_mul-rates : goal.overflow_mul-rates
overflow_mul-rates c = omega (arith, rates_most c.args.self c.requires.goes)

pub overflow_mul-early : goal.overflow_mul-early
overflow_mul-early c = omega (arith, right_most c.args.self c.requires.goes)

pub overflow_sub-early : goal.overflow_sub-early
overflow_sub-early c = omega (arith, delay_le c.args.self c.requires.goes)

pub overflow_mul-early-2 : goal.overflow_mul-early-2
overflow_mul-early-2 c = omega (arith, early_most c.args.self c.requires.goes)

pub overflow_add-result : goal.overflow_add-result
overflow_add-result c = omega (arith, rates_most c.args.self c.requires.goes, early_most c.args.self c.requires.goes)

pub overflow_mul-result : goal.overflow_mul-result
overflow_mul-result c = omega (arith, given_most c.args.self c.requires.goes c.args.rated.0 c.requires.rated_le_most_rated)
