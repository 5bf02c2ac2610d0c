use Rattle.ramp.specs.Bytes.{actions_from}
use Rattle.ramp.specs.Inner.{SoFar}
use Rattle.ramp.proofs.hour_so_far.Given as goal

abbrev pub invariant-loop-i : goal.invariant-loop-i
invariant-loop-i l = SoFar (actions_from l.s 0 l.i) l.h
