use mathlib.Core.Path.{ap}
use Prim.Native.Nat.{ℕ}
use Rattle.render.specs.Decimal.{decimal}
use Rattle.clock.specs.Clock.{date_text}
use Rattle.render.proofs.Placed.{and_then, same_put}
use Rattle.clock.proofs.put_date.Goals as goal

pub returns : goal.returns
unfolding date_text
returns c =
    and_then (and_then (same_put (ap (λ (n : ℕ). decimal n) c.from.ensures) c.put_decimal-a.ensures)
    c.put_word-b.ensures) c.put_clock.ensures
