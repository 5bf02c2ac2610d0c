use mathlib.Core.Path.{◌≡◌}
use Rattle.book.specs.Book.{record_at}
use Rattle.score.specs.First.{first_nonzero}
use Rattle.against.specs.Against.{clash_mark}
use Rattle.against.proofs.clash_with.Given as goal

abbrev pub invariant-loop-j : goal.invariant-loop-j
invariant-loop-j l = first_nonzero (clash_mark (record_at l.b l.i) (record_at l.b)) l.j ≡ l.j
