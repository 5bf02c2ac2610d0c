use mathlib.Core.Path.{◌≡◌}
use Prim.Native.Nat.{◌+◌}
use lib.ListN.{take, drop}
use Rattle.fitting.specs.Fitting.{first_part_of}
use Rattle.fitting.specs.Inner.{got_of}
use Rattle.fitting.proofs.parts.first_part.Given as goal

abbrev pub invariant-loop-i : goal.invariant-loop-i
invariant-loop-i l =
    first_part_of (1 + l.i) (drop l.i (take l.count l.rows)) (got_of (drop l.i (take l.count l.lines))) ≡ first_part_of 1 (take l.count l.rows) (got_of (take l.count l.lines))
