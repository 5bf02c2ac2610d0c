use mathlib.Core.Path.{◌∙◌, ap}
use Rattle.pay.specs.Open.{is_before, black_start_open}
use Rattle.pay.proofs.open.black_start_open.Goals as goal

pub returns : goal.returns
unfolding black_start_open
returns c = c.is_before.ensures ∙ ap (is_before c.args.month) c.closing_month.ensures
