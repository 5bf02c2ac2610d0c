use Rattle.std.proofs.Common.{◌≡◌, ◌-◌, ◌≤◌, length}
use Rattle.row.specs.Meaning.{most_columns}
use Rattle.hours.proofs.Streaming.{ReadSoFar}
use Rattle.hours.proofs.Reader.feed.Given as goal

abbrev pub invariant-loop-i : goal.invariant-loop-i
invariant-loop-i l = (l.i ≤ length l.bytes) × (length l.ended ≡ most_columns)
    × ReadSoFar l.bytes (record { grid = l.initial.grid; ended = l.initial.ended; blank = l.initial.blank; sheet = l.initial.sheet }) l.i
    (record { grid = l.grid; ended = l.ended; blank = l.blank; sheet = l.sheet })

abbrev pub decreases-loop-i : goal.decreases-loop-i
decreases-loop-i l = length l.bytes - l.i
