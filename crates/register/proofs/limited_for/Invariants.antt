use mathlib.Core.Path.{◌≡◌}
use lib.ListN.{length, take}
use Rattle.register.specs.Register.{limited_for}
use Rattle.register.proofs.limited_for.Given as goal

abbrev pub invariant-loop-i : goal.invariant-loop-i
invariant-loop-i l = (length l.lines ≡ 64) × (take l.i l.lines ≡ take l.i (limited_for l.entries l.fens))
