use mathlib.Core.Path.{◌≡◌}
use mathlib.Core.List.{List, [], ◌++◌}
use Prim.Native.Nat.{ℕ, ◌-◌}
use lib.ListN.{replicate}
use Rattle.tables.specs.Meaning.{fill_from}
use Rattle.tables.proofs.series.put_blanks.Given as goal

abbrev pub invariant-loop : goal.invariant-loop
invariant-loop l = (rows : List (List ℕ)) → fill_from l.out l.at (replicate (l.blanks - l.counter) [] ++ rows) ≡ fill_from l.initial.out l.n (replicate l.blanks [] ++ rows)
