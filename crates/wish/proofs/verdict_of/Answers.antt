use mathlib.Core.Path.{refl}
use Rattle.wish.specs.Wish.{verdict}
use Rattle.wish.proofs.verdict_of.Goals as goal

pub returns-in-None : goal.returns-in-None
unfolding verdict
returns-in-None c = rw c.in-None.is refl

pub returns-in-Some : goal.returns-in-Some
unfolding verdict
returns-in-Some c = rw c.in-Some.is c.over.ensures
