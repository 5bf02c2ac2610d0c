use native.Mathlib.Omega.{arith}
use Rattle.report.specs.Texts.{row_text}
use Rattle.report.proofs.Rows.{most_row_lem}
use Rattle.report.proofs.put_row.Goals as goal

pub fill-requires : goal.fill-requires
fill-requires c = omega (arith, most_row_lem)

pub returns : goal.returns
unfolding row_text
returns c = rw (most_row_lem, c.row_values-values.ensures) at c.fill.ensures
