use Rattle.lines.proofs.Parts.{Left}
use Rattle.lines.proofs.part.first_line.Given as goal

abbrev pub invariant-loop-next : goal.invariant-loop-next
invariant-loop-next l = Left l.initial.row l.bytes l.row l.next
