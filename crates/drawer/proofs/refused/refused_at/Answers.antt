use mathlib.Core.Path.{refl}
use Rattle.drawer.specs.Refused.{refused_at}
use Rattle.drawer.proofs.refused.refused_at.Goals as goal

pub returns : goal.returns
unfolding refused_at
returns c = rw (c.first_against-against.ensures, c.record_at-x.ensures, c.requires.number_value) refl
