use mathlib.Core.Path.{refl}
use Rattle.book.specs.Check.{is_marked}
use Rattle.book.proofs.is_marked.Goals as goal

pub returns : goal.returns
unfolding is_marked
returns c = refl
