use Rattle.std.proofs.Common.{length}
use Rattle.desk.proofs.+run.Given as goal

abbrev pub decreases-run : goal.decreases-run
decreases-run l = length l.word.now
