use mathlib.Core.Path.{◌≡◌}
use mathlib.Core.List.{List, ◌++◌}
use Prim.Native.Nat.{ℕ, ◌-◌}
use lib.ListN.{length, drop}
use Rattle.row.specs.Meaning.{most_columns}
use Rattle.lines.specs.Meaning.{body_meaning}
use Rattle.lines.proofs.body.Body.feed.Given as goal

abbrev pub invariant-loop-b : goal.invariant-loop-b
invariant-loop-b l =
    (length l.row.ended ≡ most_columns - 1)
    × ((rest : List ℕ) → body_meaning (record { row = l.row; sheet = l.sheet }) (drop l.b-index l.bytes ++ rest)
    ≡ body_meaning (record { row = l.initial.row; sheet = l.initial.sheet }) (l.bytes ++ rest))
