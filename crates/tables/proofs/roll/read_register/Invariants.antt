use mathlib.Core.Path.{◌≡◌}
use Prim.Native.Nat.{◌-◌, ◌≤◌}
use lib.ListN.{length, drop}
use Rattle.row.specs.Meaning.{most_columns}
use Rattle.tables.specs.Register.{read_register}
use Rattle.tables.proofs.Judging.{roll_left}
use Rattle.tables.proofs.roll.read_register.Given as goal

abbrev pub invariant-loop-i : goal.invariant-loop-i
invariant-loop-i l = (l.i ≤ length l.text) × (length l.ended ≡ most_columns) × (roll_left l.roll l.grid l.ended (drop l.i l.text) ≡ read_register l.text)

abbrev pub decreases-loop-i : goal.decreases-loop-i
decreases-loop-i l = length l.text - l.i
