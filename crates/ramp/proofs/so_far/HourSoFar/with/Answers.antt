use mathlib.Core.Path.{sym, ◌∙◌}
use native.Mathlib.Omega.{arith}
use Rattle.ramp.proofs.Sound.{not_of, not_not}
use Rattle.ramp.proofs.Going.{one_more, goes_wrong, goes_right}
use mathlib.Core.Path.{ap}
use mathlib.Core.Bool.{not}
use Rattle.ramp.proofs.so_far.HourSoFar.with.Goals as goal

pub returns-then-not-is_right_way : goal.returns-then-not-is_right_way
returns-then-not-is_right_way c actions s =
    goes_wrong actions c.args.a c.args.self s c.requires.a_value (sym c.is_right_way.ensures ∙ not_of _ (ap not c.if-not-is_right_way.true))

pub overflow_add-result-3 : goal.overflow_add-result-3
overflow_add-result-3 c = omega (arith, one_more c.args.self c.requires.goes c.args.a c.requires.a_value)

pub overflow_add-result-4 : goal.overflow_add-result-4
overflow_add-result-4 c = omega (arith, one_more c.args.self c.requires.goes c.args.a c.requires.a_value)

pub overflow_add-result-5 : goal.overflow_add-result-5
overflow_add-result-5 c = omega (arith, one_more c.args.self c.requires.goes c.args.a c.requires.a_value)

pub overflow_add-result-6 : goal.overflow_add-result-6
overflow_add-result-6 c = omega (arith, one_more c.args.self c.requires.goes c.args.a c.requires.a_value)

pub overflow_add-result-7 : goal.overflow_add-result-7
overflow_add-result-7 c = omega (arith, one_more c.args.self c.requires.goes c.args.a c.requires.a_value)

pub returns : goal.returns
returns c actions s =
    rw (c.move_of-moved.ensures, c.error_of-error.ensures)
    (goes_right actions c.args.a c.args.self s c.requires.a_value (sym c.is_right_way.ensures ∙ not_not _ (ap not c.if-not-is_right_way.false)))
