use Rattle.posted.proofs.Taking.{Left}
use Rattle.posted.proofs.taken.read_number.Given as goal

abbrev pub invariant-loop-i : goal.invariant-loop-i
invariant-loop-i l = Left l.text l.value l.i
