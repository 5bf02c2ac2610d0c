use mathlib.Core.Path.{◌≡◌, ap, ◌∙◌}
use mathlib.Core.List.{map}
use native.Mathlib.Omega.{arith}
use lib.ListN.{length}
use lib.Seq.{take_all}
use Rattle.apportion.proofs.Promises.{nothing}
use Rattle.share.proofs.Lists.{zeros_part}
use Rattle.share.proofs.settle.shares_of.Goals as goal

pub returns-else-n-gt0 : goal.returns-else-n-gt0
returns-else-n-gt0 c =
    let ws = c.args.weights.now in
    let z : c.args.amount.0 ≡ 0 = omega arith in
    rw (z, nothing) (zeros_part (length ws) 64 ws (omega arith) (omega arith) ∙ ap (map (λ w. 0)) (take_all (length ws) ws (omega arith)))
