use Rattle.remark.specs.Remarks.{clash_values}
use Rattle.remark.proofs.away.clash_text.Goals as goal

pub returns : goal.returns
unfolding clash_values
returns c = rw c.flag-overlaps.ensures at c.say.ensures
