use mathlib.Core.Path.{◌≡◌, ◌∙◌}
use native.Mathlib.Omega.{arith}
use Rattle.apportion.proofs.Promises.{nothing}
use Rattle.share_bytes.proofs.Rows.{zeros}
use Rattle.share_bytes.proofs.shares_into.Goals as goal

pub returns-else-n-gt0 : goal.returns-else-n-gt0
returns-else-n-gt0 c =
    let z : c.args.amount.0 ≡ 0 = omega arith in
    rw (z, nothing) (c.requires.shares_value ∙ zeros c.args.weights.now)
