use mathlib.Core.Path.{refl}
use Rattle.field.specs.Field.{length_fits}
use Rattle.field.proofs.length_fits.Goals as goal

pub returns : goal.returns
unfolding length_fits
returns c = rw (c.from.ensures, c.from-2.ensures) refl
