use mathlib.Core.Path.{◌≡◌, ap, ◌∙◌}
use mathlib.Core.List.{map}
use native.Mathlib.Omega.{arith}
use lib.ListN.{length}
use lib.Seq.{take_all}
use Rattle.apportion.proofs.Promises.{nothing}
use Rattle.share.proofs.Lists.{zeros_part}
use Rattle.ceiling.proofs.second.given_up.Goals as goal

pub returns-else-sum-gt0 : goal.returns-else-sum-gt0
returns-else-sum-gt0 c =
    let ps = c.args.ps.now in
    let z : c.args.sum ≡ 0 = omega arith in
    rw (z, nothing) (zeros_part (length ps) 64 ps (omega arith) (omega arith) ∙ ap (map (λ w. 0)) (take_all (length ps) ps (omega arith)))
