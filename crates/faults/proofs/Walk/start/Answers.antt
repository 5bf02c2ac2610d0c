use Rattle.std.proofs.Common.{arith, rules}
use Rattle.faults.proofs.Walking.{starts_walk}
use Rattle.faults.proofs.Walk.start.Goals as goal

pub returns : goal.returns
returns c = let a = c.args in starts_walk a.table a.text.now c.start.result _ c.first_line.result c.start.ensures
    c.first_line.ensures (search rules) (omega arith)
