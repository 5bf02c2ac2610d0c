use mathlib.Core.Path.{◌≡◌}
use Prim.Native.Nat.{◌*◌}
use lib.ListN.{length}
use Rattle.render.specs.Inner.{Puts}
use Rattle.report.specs.Texts.{most_row, rows_text}
use Rattle.report.proofs.put_rows.Given as goal

abbrev pub invariant-loop-row : goal.invariant-loop-row
invariant-loop-row l =
    (length l.out ≡ length l.initial.out) × Puts (most_row * l.row-index) l.initial.out 0 (rows_text l.rows l.row-index) l.out l.next
