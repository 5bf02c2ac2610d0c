use mathlib.Core.Path.{refl}
use native.Mathlib.Omega.{arith}
use Rattle.ramp.specs.Ramping.{right_way, first_standard, first_unsound}
use Rattle.ramp.specs.Inner.{add_up}
use Rattle.ramp.proofs.so_far.HourSoFar.start.Goals as goal

pub returns : goal.returns
unfolding add_up right_way first_standard first_unsound
returns c =
    record { most = omega arith; sound = refl; count = refl; standard = refl; right = refl; distance = refl; error = refl; real = refl; delay = refl }
