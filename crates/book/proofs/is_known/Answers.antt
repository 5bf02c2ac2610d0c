use mathlib.Core.Path.{refl}
use Rattle.book.specs.Check.{is_known}
use Rattle.book.proofs.is_known.Goals as goal

pub returns : goal.returns
unfolding is_known
returns c = refl
