use Rattle.faults.specs.Faults.{first_line}
use Rattle.hour_faults.specs.Inner.{first_left}
use Rattle.hour_faults.proofs.Streaming.{found_ends}
use Rattle.hour_faults.proofs.Finder.finish.Goals as goal

pub returns : goal.returns
unfolding first_left first_line
returns c = found_ends c.args.self c.unwrap_or.result c.after-last.result c.found_by.result c.unwrap_or.ensures c.after-last.ensures c.found_by.ensures
