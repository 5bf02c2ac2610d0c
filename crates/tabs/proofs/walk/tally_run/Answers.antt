use native.Mathlib.Omega.{arith}
use Rattle.tabs.proofs.Stretches.{end_few}
use Rattle.tabs.proofs.walk.tally_run.Goals as goal

pub overflow_add-end : goal.overflow_add-end
overflow_add-end c = omega (arith, end_few c.requires)
