use mathlib.Core.Path.{◌≡◌}
use Prim.Native.Nat.{◌+◌, ◌≤◌}
use lib.ListN.{length, drop}
use Rattle.form.specs.Form.{most_from, most_with}
use Rattle.form.proofs.room.is_enough.Given as goal

abbrev pub invariant-loop-c : goal.invariant-loop-c
invariant-loop-c l =
    (l.c-index ≤ length l.form) × (l.left + most_with l.form l.a l.b ≡ l.room + most_from l.a l.b l.marked (drop l.c-index l.form))
