use mathlib.Core.Path.{◌∙◌}
use Rattle.rule.specs.Standing.{same_call}
use Rattle.drawer.proofs.Signs.{same_int, and_both}
use Rattle.drawer.proofs.stale.same_call.Goals as goal

pub returns : goal.returns
unfolding same_call
returns c = c.eq.ensures ∙ rw (same_int c.args.x.a c.args.y.a) (simp and_both)
