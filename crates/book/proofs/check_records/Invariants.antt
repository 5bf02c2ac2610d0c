use mathlib.Core.Path.{◌≡◌}
use Prim.Native.Nat.{◌-◌}
use Rattle.book.specs.Check.{check_records}
use Rattle.book.proofs.check_records.Given as goal

abbrev pub invariant-loop-i : goal.invariant-loop-i
invariant-loop-i l = check_records l.minutes l.b l.low l.i (l.n - l.i) ≡ check_records l.minutes l.b 0 0 l.n
