use mathlib.Core.Path.{◌≡◌}
use Rattle.score.specs.First.{first_nonzero}
use Rattle.score.specs.Refusing.{own_at}
use Rattle.book.specs.Book.{record_at}
use Rattle.score.proofs.refusal.first_own.Given as goal

abbrev pub invariant-loop-i : goal.invariant-loop-i
invariant-loop-i l = first_nonzero (own_at l.number (record_at l.b)) l.i ≡ l.i
