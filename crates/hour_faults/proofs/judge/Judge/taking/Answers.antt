use Rattle.std.proofs.Common.{refl}
use Rattle.hour_faults.proofs.Judging.{taking_is}
use Rattle.hour_faults.proofs.judge.Judge.taking.Goals as goal

pub returns : goal.returns
returns c = let a = c.args in
    taking_is a.self a.cells.now c.filled_for-n.result c.standard_for-first.result _ _
    c.filled_for-n.ensures c.standard_for-first.ensures refl refl
