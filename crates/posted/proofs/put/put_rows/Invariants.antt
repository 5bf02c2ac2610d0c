use mathlib.Core.Path.{◌≡◌}
use Prim.Native.Nat.{◌*◌}
use lib.ListN.{length, take}
use Rattle.render.specs.Inner.{Puts}
use Rattle.posted.specs.Posted.{most_row, rows_text}
use Rattle.posted.proofs.put.put_rows.Given as goal

abbrev pub invariant-loop-row : goal.invariant-loop-row
invariant-loop-row l = (length l.out ≡ length l.initial.out) × Puts (most_row * l.row-index) l.initial.out l.at (rows_text (take l.row-index l.rows)) l.out l.next
