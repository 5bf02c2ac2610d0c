use mathlib.Core.Path.{refl}
use Rattle.book.specs.Check.{header_is_sound}
use Rattle.book.proofs.Header.is_sound.Goals as goal

pub returns : goal.returns
unfolding header_is_sound
returns c = refl
