use mathlib.Core.Path.{ap}
use Prim.Native.Nat.{ℕ}
use Rattle.render.specs.Decimal.{decimal}
use Rattle.clock.specs.Clock.{minutes_text}
use Rattle.render.proofs.Placed.{and_then, same_put}
use Rattle.clock.proofs.put_minutes.Goals as goal

pub returns : goal.returns
unfolding minutes_text
returns c = and_then (same_put (ap (λ (n : ℕ). decimal n) c.from.ensures) c.put_decimal-next.ensures) c.put_word.ensures
