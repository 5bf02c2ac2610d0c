use mathlib.Core.Path.{◌≡◌}
use Prim.Native.Nat.{◌+◌, ◌-◌}
use Rattle.book.specs.Book.{calls_from}
use Rattle.month.specs.Settling.{first_unlisted}
use Rattle.month.proofs.listed.first_unlisted.Given as goal

abbrev pub invariant-loop-i : goal.invariant-loop-i
invariant-loop-i l = l.i + first_unlisted l.entries (calls_from l.book l.i (l.n - l.i)) ≡ first_unlisted l.entries (calls_from l.book 0 l.n)
