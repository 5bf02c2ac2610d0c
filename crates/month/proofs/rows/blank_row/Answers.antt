use mathlib.Core.Path.{refl}
use Rattle.month.specs.Settling.{blank_row}
use Rattle.month.proofs.rows.blank_row.Goals as goal

pub returns : goal.returns
unfolding blank_row
returns c = refl
