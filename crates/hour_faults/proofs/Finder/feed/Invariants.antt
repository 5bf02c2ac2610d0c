use Rattle.std.proofs.Common.{◌≡◌, ◌-◌, ◌≤◌, length}
use Rattle.row.specs.Meaning.{most_columns}
use Rattle.hour_faults.proofs.Streaming.{LeftSoFar}
use Rattle.hour_faults.proofs.Finder.feed.Given as goal

abbrev pub invariant-loop-i : goal.invariant-loop-i
invariant-loop-i l = (l.i ≤ length l.bytes) × (length l.ended ≡ most_columns)
    × LeftSoFar l.bytes l.initial.judge l.initial.blank l.initial.grid l.initial.ended l.i l.judge l.blank l.grid l.ended

abbrev pub decreases-loop-i : goal.decreases-loop-i
decreases-loop-i l = length l.bytes - l.i
