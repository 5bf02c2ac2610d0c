use mathlib.Core.Path.{◌≡◌}
use Rattle.book.specs.Book.{record_at}
use Rattle.score.specs.First.{first_nonzero}
use Rattle.drawer.specs.Refused.{against_at}
use Rattle.drawer.proofs.refused.first_against.Given as goal

abbrev pub invariant-loop-j : goal.invariant-loop-j
invariant-loop-j l = first_nonzero (against_at l.number l.x (record_at l.b)) l.j ≡ l.j
