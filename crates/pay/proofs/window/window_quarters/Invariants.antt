use mathlib.Core.Path.{◌≡◌}
use Prim.Native.Nat.{◌≤◌}
use Rattle.pay.specs.Sum.{total}
use Rattle.pay.specs.Window.{quarter_counts}
use Rattle.pay.proofs.window.window_quarters.Given as goal

abbrev pub invariant-loop-k : goal.invariant-loop-k
invariant-loop-k l =
    (l.sum ≤ l.k) × (l.sum ≡ total (quarter_counts l.member l.service l.top.0 l.series) l.from l.k)
