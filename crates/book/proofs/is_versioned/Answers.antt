use mathlib.Core.Path.{refl}
use Rattle.book.specs.Check.{is_versioned}
use Rattle.book.proofs.is_versioned.Goals as goal

pub returns : goal.returns
unfolding is_versioned
returns c = rw (c.is_known.ensures, c.version_at.ensures) refl
