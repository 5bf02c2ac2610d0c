use mathlib.Core.Path.{◌≡◌}
use Rattle.score.specs.First.{first_nonzero}
use Rattle.score.specs.Series.{too_much}
use Rattle.score.proofs.series.first_too_much.Given as goal

abbrev pub invariant-loop-i : goal.invariant-loop-i
invariant-loop-i l = first_nonzero (too_much l.series) l.i ≡ l.i
