use mathlib.Core.Path.{refl}
use Rattle.pay.specs.Inner.{is_by_energy}
use Rattle.pay.proofs.live.is_by_energy.Goals as goal

pub returns : goal.returns
unfolding is_by_energy
returns c = rw c.is_by_rate-rate.ensures refl
