use mathlib.Core.Path.{◌≡◌}
use Rattle.pay.specs.Sum.{total}
use Rattle.pay.specs.Inner.{coal_at}
use Rattle.pay.proofs.window.run_coal.Given as goal

abbrev pub invariant-loop-p : goal.invariant-loop-p
invariant-loop-p l = l.sum ≡ total (coal_at l.rated.0 l.top.0 l.series) l.from l.p-index
