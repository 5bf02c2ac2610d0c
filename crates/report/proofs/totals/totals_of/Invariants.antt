use mathlib.Core.Path.{◌≡◌}
use Rattle.report.specs.Totals.{totals_of}
use Rattle.report.proofs.totals.totals_of.Given as goal

abbrev pub invariant-loop-row : goal.invariant-loop-row
invariant-loop-row l = l.t ≡ totals_of l.rows l.row-index
