use mathlib.Core.Path.{refl}
use Rattle.year.specs.Year.{no_months}
use Rattle.year.proofs.member.no_months.Goals as goal

pub returns : goal.returns
unfolding no_months
returns c = refl
