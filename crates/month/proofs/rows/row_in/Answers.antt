use mathlib.Core.Path.{refl}
use Rattle.month.specs.Settling.{row_of}
use Rattle.month.specs.Inner.{row_in}
use Rattle.month.proofs.rows.row_in.Goals as goal

pub returns : goal.returns
unfolding row_in row_of
returns c = rw c.weight_of-weight.ensures refl
