use Rattle.clock.proofs.Parts.{cut_before, all_before}
use Rattle.clock.proofs.before.Goals as goal

pub returns-in-Some : goal.returns-in-Some
returns-in-Some c = let a = c.args in cut_before a.mark a.text.now c.in-Some.n c.in-Some.ensures

pub returns-in-None : goal.returns-in-None
returns-in-None c = let a = c.args in all_before a.mark a.text.now c.in-None.ensures
