use Rattle.posted.proofs.Rows.{Read}
use Rattle.posted.proofs.line.read_members.Given as goal

abbrev pub invariant-loop-count : goal.invariant-loop-count
invariant-loop-count l = Read l.text l.rows l.count l.rest
