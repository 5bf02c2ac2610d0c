use mathlib.Core.Bool.{false}
use mathlib.Core.Path.{◌≡◌}
use Rattle.score.specs.First.{any_below}
use Rattle.score.specs.Refusing.{clash_at}
use Rattle.book.specs.Book.{record_at}
use Rattle.score.proofs.refusal.clash_before.Given as goal

abbrev pub invariant-loop-j : goal.invariant-loop-j
invariant-loop-j l = any_below (clash_at l.number l.x (record_at l.b)) l.j ≡ false
