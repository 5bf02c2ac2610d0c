use Rattle.std.proofs.Common.{refl}
use Rattle.hours.specs.Name.{ramping_name}
use Rattle.hours.proofs.name.ramping_name.Goals as goal

pub returns : goal.returns
unfolding ramping_name
returns c = refl
