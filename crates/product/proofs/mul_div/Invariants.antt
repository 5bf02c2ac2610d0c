use mathlib.Core.Path.{◌≡◌}
use Prim.Native.Nat.{◌*◌, ◌<◌}
use Rattle.product.specs.Inner.{comes}
use Rattle.product.proofs.mul_div.Given as goal

abbrev pub invariant-loop-g : goal.invariant-loop-g
invariant-loop-g l = (comes l.all l.g ≡ l.n * l.w) × (l.g.done.r < l.all) × (l.g.step.r < l.all)

abbrev pub decreases-loop-g : goal.decreases-loop-g
decreases-loop-g l = l.g.left
