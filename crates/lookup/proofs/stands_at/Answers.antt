use mathlib.Core.Path.{refl}
use Rattle.lookup.specs.Lookup.{stands_at}
use Rattle.lookup.proofs.stands_at.Goals as goal

pub returns-in-First : goal.returns-in-First
unfolding stands_at
returns-in-First c = rw c.in-First.is refl

pub returns-in-Second : goal.returns-in-Second
unfolding stands_at
returns-in-Second c = rw c.in-Second.is refl

pub returns-in-Struck : goal.returns-in-Struck
unfolding stands_at
returns-in-Struck c = rw c.in-Struck.is refl
