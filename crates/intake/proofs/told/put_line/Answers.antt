use mathlib.Core.Path.{ap}
use native.Mathlib.Omega.{arith}
use Rattle.render.specs.Decimal.{decimal}
use Rattle.render.proofs.Placed.{and_then, looser, same_put}
use Rattle.intake.specs.Told.{line_text}
use Rattle.intake.proofs.told.put_line.Goals as goal

pub returns : goal.returns
unfolding line_text
returns c =
    let p = c.put_word-a.ensures in
    let q = same_put (ap decimal (c.saturating_add.ensures)) (c.put_decimal-b.ensures) in
    looser _ (omega arith) (and_then (and_then p q) (c.put_word.ensures))
