use Rattle.std.proofs.Common.{ℕ, ap, arith}
use Rattle.render.specs.Decimal.{field}
use Rattle.render.proofs.Placed.{and_then, looser, same_put}
use Rattle.faults.specs.Words.{whose_text}
use Rattle.faults.proofs.words.put_whose.Goals as goal

pub returns : goal.returns
unfolding whose_text
returns c = looser _ (omega arith) (and_then c.put_month-a.ensures (same_put (ap (λ (n : ℕ). field " " n) c.from.ensures) c.put_field.ensures))
