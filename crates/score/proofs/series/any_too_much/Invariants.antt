use mathlib.Core.Bool.{false}
use mathlib.Core.Path.{◌≡◌}
use Rattle.score.specs.First.{first_nonzero}
use Rattle.score.specs.Series.{too_much}
use Rattle.score.proofs.series.any_too_much.Given as goal

abbrev pub invariant-loop-output : goal.invariant-loop-output
invariant-loop-output l = l.any ≡ false → first_nonzero (too_much l.series) l.output-index ≡ l.output-index
