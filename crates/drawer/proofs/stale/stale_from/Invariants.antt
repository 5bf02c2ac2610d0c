use mathlib.Core.Path.{◌≡◌}
use Rattle.drawer.specs.Stale.{stale_of}
use Rattle.drawer.proofs.stale.stale_from.Given as goal

abbrev pub invariant-loop-at : goal.invariant-loop-at
invariant-loop-at l = stale_of l.book l.joined l.at ≡ stale_of l.book l.joined l.i
