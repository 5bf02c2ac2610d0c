use Prim.Native.Nat.{◌+◌, ◌-◌}
use Rattle.book.specs.Book.{count_at}
use Rattle.join.proofs.Steps.{Counting}
use Rattle.join.proofs.keys_of_both.Given as goal

abbrev pub invariant-loop-a : goal.invariant-loop-a
invariant-loop-a l = Counting l.first (count_at l.first) l.second (count_at l.second) l.a l.b l.k

abbrev pub decreases-loop-a : goal.decreases-loop-a
decreases-loop-a l = (l.e + l.f) - (l.a + l.b)
