use Rattle.month.proofs.Statements.{refused_is}
use Rattle.month.proofs.month_refused.Goals as goal

pub returns : goal.returns
returns c = refused_is _ _ c.blank_rows-rows.ensures
