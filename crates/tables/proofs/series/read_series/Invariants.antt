use mathlib.Core.Path.{◌≡◌}
use Prim.Native.Nat.{◌-◌, ◌≤◌}
use lib.ListN.{length, drop}
use Rattle.row.specs.Meaning.{most_columns}
use Rattle.tables.specs.Series.{series_of, filled_with}
use Rattle.tables.proofs.Filling.{place_left}
use Rattle.tables.proofs.series.read_series.Given as goal

abbrev pub invariant-loop-i : goal.invariant-loop-i
invariant-loop-i l = (l.i ≤ length l.text) × (length l.ended ≡ most_columns) × (length l.out ≡ length l.initial.out) × (l.place.blanks ≤ l.i)
    × (place_left l.out l.place l.grid l.ended (drop l.i l.text) ≡ filled_with l.initial.out (series_of l.text))

abbrev pub decreases-loop-i : goal.decreases-loop-i
decreases-loop-i l = length l.text - l.i
