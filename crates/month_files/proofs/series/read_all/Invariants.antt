use Rattle.std.proofs.Common.{◌≡◌, ◌*◌, ◌≤◌, length}
use Rattle.tally.specs.Room.{series_room}
use Rattle.month_files.proofs.series.read_all.Given as goal

abbrev pub invariant-loop-i : goal.invariant-loop-i
invariant-loop-i l =
    (l.lengths.bad ≤ l.i) × (l.lengths.all ≤ l.i * series_room) × (length l.series ≡ length l.initial.series)
