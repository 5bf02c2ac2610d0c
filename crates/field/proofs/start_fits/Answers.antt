use mathlib.Core.Path.{refl}
use Rattle.field.specs.Field.{start_fits}
use Rattle.field.proofs.start_fits.Goals as goal

pub returns : goal.returns
unfolding start_fits
returns c = refl
