use mathlib.Core.Path.{refl}
use Rattle.cutting.specs.Cutting.{is_inside}
use Rattle.cutting.proofs.is_inside.Goals as goal

pub returns : goal.returns
unfolding is_inside
returns c = rw (c.from.ensures, c.from-2.ensures, c.from-3.ensures) refl
