use mathlib.Core.Path.{sym}
use Rattle.tabs.proofs.Walking.{for_none, for_some}
use Rattle.tabs.proofs.walk.index_for.Goals as goal

pub returns-then-count-eq0 : goal.returns-then-count-eq0
returns-then-count-eq0 c = sym (for_none _ _ _ c.if-count-eq0.true)

pub returns : goal.returns
returns c = sym (for_some _ _ _ c.if-count-eq0.false)
