use mathlib.Core.Path.{◌≡◌}
use Rattle.pay.specs.Sum.{total}
use Rattle.pay.specs.Inner.{lacking_at}
use Rattle.pay.proofs.window.run_lacking.Given as goal

abbrev pub invariant-loop-p : goal.invariant-loop-p
invariant-loop-p l = l.sum ≡ total (lacking_at l.level.0 l.series) l.from l.p-index
