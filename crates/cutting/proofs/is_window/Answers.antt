use mathlib.Core.Path.{refl}
use Rattle.cutting.specs.Cutting.{is_window}
use Rattle.cutting.proofs.is_window.Goals as goal

pub returns : goal.returns
unfolding is_window
returns c = refl
