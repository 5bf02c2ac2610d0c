use mathlib.Core.Path.{◌≡◌}
use lib.ListN.{length}
use Rattle.month.proofs.Walking.{Walk}
use Rattle.month.proofs.members.members_earned.Given as goal

abbrev pub invariant-loop-i : goal.invariant-loop-i
invariant-loop-i l = (length l.grains ≡ 64) × Walk l.entries l.book l.series l.lengths l.ramped l.grains l.at l.i
