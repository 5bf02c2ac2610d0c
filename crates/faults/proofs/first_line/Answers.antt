use Rattle.std.proofs.Common.{ℕ, ap, ◌∙◌}
use Rattle.std.specs.Prelude.{Option, unwrap_or}
use Rattle.faults.proofs.Head.{row_is}
use Rattle.faults.proofs.first_line.Goals as goal

pub returns : goal.returns
returns c = c.unwrap_or.ensures ∙ ap (λ (o : Option ℕ). unwrap_or o 2) c.first_row.ensures ∙ row_is c.args.text.now
