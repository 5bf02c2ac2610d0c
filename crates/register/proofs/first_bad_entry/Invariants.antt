use mathlib.Core.Path.{◌≡◌}
use Prim.Native.Nat.{◌+◌}
use lib.ListN.{take, drop}
use Rattle.register.specs.Register.{first_bad_entry}
use Rattle.register.proofs.first_bad_entry.Given as goal

abbrev pub invariant-loop-i : goal.invariant-loop-i
invariant-loop-i l = l.i + first_bad_entry l.before (drop l.i l.e-items) ≡ first_bad_entry 0 (take l.count l.fn.entries)
