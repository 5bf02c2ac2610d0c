-- Every hour worked out apart is what the definitions give. Assumes nothing.
use mathlib.Core.Path.{◌≡◌, refl}
use mathlib.Core.Bool.{true}
use Rattle.pay.specs.Member.{member_is_sound}
use Rattle.ramp.specs.Fractions.{fraction, plus, less, times, sum, mean, cut}
use Rattle.ramp.specs.Ramping.{apart, is_right_way, move_of, error_of, k1, k2, k3, index, right_way, moves, distance, mean_index, hour_worth, hour_grains}
use Rattle.ramp.specs.Ramping.{is_ramping, action_is_sound, first_standard, first_unsound, first_bad_action, hour_refused, hour_paid, ramping}
use Rattle.ramp.specs.Cases.{hour_cases, same_hour, case_holds, every_case}

pub all_cases : every_case hour_cases ≡ true
unfolding
    every_case case_holds same_hour member_is_sound fraction plus less times sum mean cut
    apart is_right_way move_of error_of k1 k2 k3 index right_way moves distance mean_index hour_worth hour_grains
    is_ramping action_is_sound first_standard first_unsound first_bad_action hour_refused hour_paid ramping
all_cases = refl
