use native.Mathlib.Omega.{arith}
use Rattle.units.specs.Month.{minutes_of}
use Rattle.units.proofs.Laws.{days_most}
use Rattle.units.proofs.calendar.minutes_of.Goals as goal

pub overflow_mul-result : goal.overflow_mul-result
overflow_mul-result c = record { fits = omega (arith, c.days_of.ensures, days_most c.args.year c.args.month) }

pub returns : goal.returns
unfolding minutes_of
returns c = rw c.days_of.ensures
