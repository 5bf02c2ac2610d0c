use mathlib.Core.Path.{refl}
use Rattle.lines.specs.Meaning.{part_is_past}
use Rattle.lines.proofs.part.is_past.Goals as goal

pub returns-then-row : goal.returns-then-row
unfolding part_is_past
returns-then-row c = rw c.if-row.true refl

pub returns : goal.returns
unfolding part_is_past
returns c = rw c.if-row.false refl
