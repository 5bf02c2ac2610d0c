use mathlib.Core.Path.{◌≡◌}
use Rattle.drawer.specs.Refused.{refused_of}
use Rattle.drawer.proofs.refused.refused_from.Given as goal

abbrev pub invariant-loop-at : goal.invariant-loop-at
invariant-loop-at l = refused_of l.member l.b l.at ≡ refused_of l.member l.b l.i
