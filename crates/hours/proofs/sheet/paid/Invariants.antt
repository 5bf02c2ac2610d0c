use Rattle.std.proofs.Common.{take}
use Rattle.ramp.specs.Inner.{SoFar}
use Rattle.hours.proofs.sheet.paid.Given as goal

abbrev pub invariant-loop-a : goal.invariant-loop-a
invariant-loop-a l = SoFar (take l.a-index l.actions) l.h
