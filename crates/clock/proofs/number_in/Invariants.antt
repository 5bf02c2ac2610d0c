use mathlib.Core.Path.{◌≡◌}
use Prim.Native.Nat.{◌<◌}
use lib.ListN.{length, drop}
use Rattle.row.specs.Numbers.{digits, value as worth, hold}
use Rattle.clock.proofs.number_in.Given as goal

abbrev pub invariant-loop-b : goal.invariant-loop-b
invariant-loop-b l =
    (0 < length l.text) × (digits l.text ≡ digits (drop l.b-index l.text)) × (hold (worth l.value (drop l.b-index l.text)) ≡ hold (worth 0 l.text))
