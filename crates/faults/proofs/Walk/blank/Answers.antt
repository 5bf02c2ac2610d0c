use Rattle.std.proofs.Common.{◌-◌, refl}
use Rattle.faults.proofs.Walking.{by_held}
use Rattle.faults.proofs.Walk.blank.Goals as goal

pub returns : goal.returns
returns c = let a = c.args in
    record {
      by_index = λ text end held. by_held text a.self end held _ (a.self.blanks - 1) refl refl;
      wrong_value = refl;
    }
