use Rattle.clock.proofs.Parts.{cut_behind, none_behind}
use Rattle.clock.proofs.behind.Goals as goal

pub returns-in-Some : goal.returns-in-Some
returns-in-Some c = let a = c.args in cut_behind a.mark a.text.now c.in-Some.n c.in-Some.ensures

pub returns-in-None : goal.returns-in-None
returns-in-None c = let a = c.args in none_behind a.mark a.text.now c.in-None.ensures
