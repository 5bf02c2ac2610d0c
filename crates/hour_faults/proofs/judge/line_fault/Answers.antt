use Rattle.std.proofs.Common.{sym, ap}
use Rattle.hour_faults.proofs.Judging.{low_standard}
use Rattle.hour_faults.specs.HourFaults.{is_sound}
use Rattle.hour_faults.proofs.judge.line_fault.Goals as goal

pub action_fault-requires-clause-rate : goal.action_fault-requires-clause-rate
action_fault-requires-clause-rate c = low_standard _ _ (ap is_sound (sym c.in-None.ensures))
