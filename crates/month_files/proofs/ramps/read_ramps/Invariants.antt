use Rattle.std.proofs.Common.{◌≤◌}
use Rattle.month_files.proofs.ramps.read_ramps.Given as goal

abbrev pub invariant-loop-i : goal.invariant-loop-i
invariant-loop-i l = l.ramps.bad ≤ l.i
