use mathlib.Core.Path.{◌≡◌}
use mathlib.Core.List.{◌++◌}
use Prim.Native.Nat.{◌^◌, ◌≤◌, ◌<◌}
use lib.ListN.{length, drop}
use Rattle.render.specs.Decimal.{decimal}
use Rattle.render.proofs.spelt.Given as goal

abbrev pub invariant-loop-rest : goal.invariant-loop-rest
invariant-loop-rest l =
    (1 ≤ l.k) × (l.k ≤ 20) × (length l.text ≡ 20) × (l.rest < 10 ^ l.k) × (decimal l.rest ++ drop l.k l.text ≡ decimal l.n)

abbrev pub decreases-loop-rest : goal.decreases-loop-rest
decreases-loop-rest l = l.rest
