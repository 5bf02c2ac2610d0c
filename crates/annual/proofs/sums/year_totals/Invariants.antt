use mathlib.Core.Path.{◌≡◌}
use Rattle.annual.specs.Sums.{year_totals}
use Rattle.annual.proofs.sums.year_totals.Given as goal

abbrev pub invariant-loop-m : goal.invariant-loop-m
invariant-loop-m l = l.t ≡ year_totals l.members l.m-index
