use mathlib.Core.Path.{◌≡◌}
use Rattle.book.specs.Book.{record_at}
use Rattle.score.specs.First.{first_nonzero}
use Rattle.score.specs.Refusing.{refusal_at}
use Rattle.reckon.proofs.refusing.first_refused.Given as goal

abbrev pub invariant-loop-i : goal.invariant-loop-i
invariant-loop-i l = first_nonzero (refusal_at l.month l.member (record_at l.b)) l.i ≡ l.i
