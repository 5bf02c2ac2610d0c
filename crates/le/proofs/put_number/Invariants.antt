use mathlib.Core.Path.{◌≡◌}
use Prim.Native.Nat.{◌+◌, ◌-◌}
use lib.ListN.{length}
use lib.Seq.{sets}
use Rattle.le.specs.Le.{le_bytes}
use Rattle.le.proofs.put_number.Given as goal

abbrev pub invariant-loop-k : goal.invariant-loop-k
invariant-loop-k l =
    (length l.s ≡ length l.initial.s) × (sets l.s (l.at + l.k) (le_bytes (l.width - l.k) l.rest) ≡ sets l.initial.s l.at (le_bytes l.width l.v))
