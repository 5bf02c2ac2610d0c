use mathlib.Core.Path.{refl}
use Rattle.drawer.specs.Inner.{is_first}
use Rattle.drawer.proofs.nothing.is_first.Goals as goal

pub returns-in-First : goal.returns-in-First
unfolding is_first
returns-in-First c = rw c.in-First.is refl

pub returns-in-Second : goal.returns-in-Second
unfolding is_first
returns-in-Second c = rw c.in-Second.is refl

pub returns-in-Struck : goal.returns-in-Struck
unfolding is_first
returns-in-Struck c = rw c.in-Struck.is refl
